pub mod Grounds
pub mod OverTopologies
pub mod Moves
pub mod HandleLists
pub mod StepLists
pub mod Faults
pub mod SessionsCalls
