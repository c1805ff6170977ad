pub mod Classes
pub mod Numbers
