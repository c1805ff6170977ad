pub mod Kept
pub mod KeptChanges
pub mod Steps
pub mod Chains
