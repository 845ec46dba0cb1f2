-- The lemmas of this crate.
pub mod Paired
pub mod Computed
pub mod Printed
