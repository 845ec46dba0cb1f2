-- The definitions of this crate.
pub mod Admitted
pub mod Example
