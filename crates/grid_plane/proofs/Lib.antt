pub mod Tests
pub mod Rectangles
pub mod Numbers
pub mod Found
pub mod PlacesOn
pub mod Cuts
