pub mod After
mod Rows
pub mod Done
pub mod Deleting
pub mod Slots
pub mod Sides
pub mod Results
pub mod LineParts
pub mod Exploding
pub mod Touches
pub mod MovedParts
pub mod MovePlans
pub mod Moving
pub mod LineEnds
pub mod Snapped
pub mod Possible
pub mod Snapping
pub mod Creating
