-- The lemmas of this crate.
pub mod Tell
pub mod Found
pub mod Reached
pub mod Agree
pub mod Sum
pub mod Worked
