-- The lemmas of this crate.
pub mod Frames
pub mod Steps
pub mod Facts
pub mod Carrying
pub mod Slots
pub mod Unseen
pub mod Calling
pub mod Each
