pub mod Same
pub mod OneTree
