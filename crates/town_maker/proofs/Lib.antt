pub mod Pieces
pub mod Drawing
