pub mod Rising
pub mod Slots
