-- The lemmas of this crate.
pub mod Entries
pub mod Tables
pub mod Laid
pub mod Verdicts
pub mod Asked
pub mod Refused
pub mod Pair
pub mod OwnRules
