pub mod Pushed
pub mod Reading
