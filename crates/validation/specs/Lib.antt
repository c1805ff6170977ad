pub mod Asked
pub mod Ends
pub mod Parted
pub mod Placed
pub mod Projects
pub mod Sorted
