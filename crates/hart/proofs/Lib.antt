-- The lemmas of this crate.
pub mod Cases
pub mod Replacing
pub mod Bytes
pub mod Halves
pub mod Agreeing
pub mod Own
pub mod Stepping
pub mod Using
pub mod Coherence
pub mod Writing
pub mod Staying
pub mod Running
pub mod Worked
pub mod Meaning
pub mod Instance
