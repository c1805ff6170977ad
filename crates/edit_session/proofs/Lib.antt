pub mod Moves
mod HandleLists
mod StepLists
mod KeptSteps
mod Swaps
mod Places
pub mod Undoing
