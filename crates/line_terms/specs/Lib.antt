pub mod Commands
pub mod Forms
pub mod Windows
pub mod Lines
