pub mod Topologies
pub mod Faults
pub mod Steps
pub mod RuleLists
