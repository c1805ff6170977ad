pub mod Somewhere
pub mod Insides
