pub mod Runs
pub mod Numerals
pub mod Tokens
pub mod Grammar
pub mod Faults
pub mod Written
pub mod Shapes
pub mod WktFaults
