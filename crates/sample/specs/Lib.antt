-- The definitions of this crate.
pub mod Memory
pub mod Verdicts
pub mod OwnRules
