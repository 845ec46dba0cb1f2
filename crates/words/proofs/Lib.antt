-- The lemmas of this crate.
pub mod Numbers
pub mod Frame
pub mod Signs
