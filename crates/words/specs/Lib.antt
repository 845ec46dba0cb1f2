-- The definitions of this crate.
pub mod Bytes
pub mod Bits
pub mod Frames
pub mod Laws
