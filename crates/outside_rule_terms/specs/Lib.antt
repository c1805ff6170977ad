pub mod Outside
pub mod Asked
