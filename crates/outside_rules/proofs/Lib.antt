mod Placed
mod Raised
mod Lookups
