-- The lemmas of this crate.
pub mod Questions
pub mod Chains
mod Answered
