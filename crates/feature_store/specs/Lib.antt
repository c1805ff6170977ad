pub mod Stored
pub mod Slots
pub mod Places
pub mod Keeps
pub mod Faults
