pub mod Faults
pub mod Reads
pub mod Shelves
pub mod Statuses
