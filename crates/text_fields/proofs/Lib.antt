pub mod Fronts
mod Ends
pub mod Printed
pub mod Short
pub mod Colons
