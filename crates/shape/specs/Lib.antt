pub mod Counts
pub mod Form
pub mod Frames
pub mod Given
pub mod Kept
pub mod Pairs
pub mod Parts
