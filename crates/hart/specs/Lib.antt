-- The definitions of this crate.
pub mod Causes
pub mod Bytes
pub mod Execution
pub mod Architecture
pub mod Core
pub mod Moments
pub mod Laws
pub mod Steps
pub mod Clocked
pub mod Meant
pub mod Example
pub mod Scaffold
