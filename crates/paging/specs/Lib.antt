-- The definitions of this crate.
pub mod Accesses
pub mod Entries
pub mod Walks
pub mod Mapping
pub mod Tables
pub mod Laws
pub mod Small
pub mod Example
