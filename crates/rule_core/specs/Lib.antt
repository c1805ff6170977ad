pub mod Junctions
pub mod Kept
pub mod Kinds
pub mod Seconds
pub mod Shown
pub mod Work
