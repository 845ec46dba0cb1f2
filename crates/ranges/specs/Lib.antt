-- The definitions of this crate.
pub mod Questions
pub mod Laws
