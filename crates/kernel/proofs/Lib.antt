-- The lemmas of this crate.
pub mod Carrying
pub mod Running
pub mod Turning
pub mod Printed
