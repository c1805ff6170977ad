pub mod Plain
pub mod Overlaps
