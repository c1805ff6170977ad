pub mod Grammar
pub mod Causes
pub mod Reading
pub mod Written
pub mod Passing
