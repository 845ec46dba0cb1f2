-- The definitions of this crate.
pub mod Roles
pub mod Words
pub mod Outcome
pub mod Tally
pub mod Memory
pub mod Laws
