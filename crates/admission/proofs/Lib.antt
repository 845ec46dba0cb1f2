-- The lemmas of this crate.
pub mod Verdict
mod Front
mod Blank
