mod Collected
mod Cutting
mod Dropping
mod Exchange
mod Finding
mod FrameSets
mod Framing
mod GonePairs
mod Joined
mod Leaving
mod MarkedRuns
pub mod Listed
mod Marking
mod Noted
pub mod Pairs
mod Remarking
mod Sharing
mod Staying
mod Walking
