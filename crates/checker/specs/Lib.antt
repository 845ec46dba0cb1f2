-- The definitions of this crate.
pub mod Faults
pub mod Tables
pub mod Marks
pub mod Roots
pub mod Sharing
pub mod Pages
pub mod Checked
pub mod Lawful
pub mod Found
pub mod Scaffold
