pub mod Parts
pub mod Views
pub mod Replaced
pub mod Picked
pub mod Framed
