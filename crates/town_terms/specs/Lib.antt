pub mod Words
pub mod Town
pub mod Summary
pub mod Request
pub mod Ends
