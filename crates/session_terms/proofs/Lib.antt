pub mod Relation
pub mod Seen
pub mod Apart
pub mod Chains
