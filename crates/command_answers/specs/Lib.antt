pub mod Refusals
pub mod Worlds
pub mod Planned
