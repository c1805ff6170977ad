pub mod Constants
pub mod Cuts
pub mod Names
pub mod Rectangles
