pub mod Parity
pub mod Ranks
pub mod Vertices
pub mod Covering
pub mod Pieces
pub mod Stretches
pub mod Strips
