-- The definitions of this crate.
pub mod Integers
pub mod Registers
pub mod Formats
pub mod Tables
pub mod Operations
pub mod Conditions
pub mod Memory
pub mod Loads
pub mod Stores
pub mod Csrs
pub mod Decoding
pub mod Encoding
pub mod Effects
pub mod Laws
pub mod Worked
pub mod Remembered
