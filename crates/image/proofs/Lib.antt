-- The lemmas of this crate.
pub mod Verdict
pub mod Front
pub mod Words
