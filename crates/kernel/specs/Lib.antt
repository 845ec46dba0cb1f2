-- The definitions of this crate.
pub mod Inside
pub mod Switch
pub mod Machine
pub mod Reports
pub mod ReportText
pub mod LineText
