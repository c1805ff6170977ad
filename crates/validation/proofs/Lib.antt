mod Asking
mod AtEnds
mod CellFrames
mod Dirtied
mod Elements
mod Filters
mod Framed
mod Nearby
mod Parted
mod Picking
mod Enough
mod TooFar
pub mod Settled
