pub mod Wholes
pub mod Groups
pub mod Seen
pub mod Faults
pub mod Edits
pub mod Fixes
pub mod Windows
