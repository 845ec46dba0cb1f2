-- The definitions of this crate.
pub mod Costs
pub mod Cycles
pub mod Laws
