pub mod Closed
pub mod Faults
pub mod Meanings
pub mod Open
pub mod States
pub mod Stops
