pub mod Alone
pub mod Areas
pub mod Sides
pub mod Parts
