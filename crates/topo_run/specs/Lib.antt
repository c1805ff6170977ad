pub mod Replayers
pub mod Stops
pub mod Told
pub mod Unopened
pub mod Verdicts
pub mod Asked
