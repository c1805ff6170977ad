pub mod LeftOver
pub mod Offs
pub mod Carvings
pub mod Rests
pub mod Sides
pub mod Pairs
pub mod Exact
mod Rows
