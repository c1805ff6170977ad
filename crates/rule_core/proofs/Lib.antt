mod Lookups
pub mod Partners
mod Puts
mod Rooms
pub mod Sides
mod Totals
pub mod Works
