-- The definitions of this crate.
pub mod Cache
pub mod Tlb
pub mod Predictor
pub mod First
pub mod Rows
pub mod History
pub mod Pages
pub mod Loops
pub mod Coherent
pub mod Laws
pub mod Example
