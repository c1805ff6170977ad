pub mod Words
pub mod Opening
pub mod Checking
pub mod Reporting
pub mod Replaying
pub mod Saving
pub mod Passed
