-- The definitions of this crate.
pub mod Pair
pub mod Programs
pub mod Lines
