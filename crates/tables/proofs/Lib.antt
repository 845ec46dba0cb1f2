-- The lemmas of this crate.
pub mod Lines
pub mod Rows
pub mod Told
pub mod Pages
pub mod Sums
pub mod Turns
pub mod Truth
pub mod Worked
