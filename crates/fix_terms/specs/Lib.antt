pub mod Plans
pub mod Explode
pub mod Move
pub mod Snap
pub mod Create
