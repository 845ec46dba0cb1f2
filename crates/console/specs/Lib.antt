-- The definitions of this crate.
pub mod Line
pub mod Slots
