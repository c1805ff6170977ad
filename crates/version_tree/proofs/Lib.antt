pub mod Same
pub mod Sets
pub mod Merging
mod Picked
mod Live
mod Setting
mod Keeping
pub mod Becoming
pub mod Merges
mod Least
pub mod Posts
mod Current
pub mod ByName
