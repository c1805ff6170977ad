pub mod Listed
pub mod Held
pub mod Lists
pub mod Fractions
