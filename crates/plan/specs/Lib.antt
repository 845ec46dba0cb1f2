-- The definitions of this crate.
pub mod Refused
pub mod Format
pub mod Places
pub mod Flows
pub mod Switch
pub mod Rules
pub mod Lawful
pub mod Timetable
pub mod Written
pub mod Example
