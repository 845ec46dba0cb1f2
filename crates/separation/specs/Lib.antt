-- The definitions of this crate.
pub mod Running
pub mod Promises
pub mod Agreement
pub mod Calls
pub mod Each
