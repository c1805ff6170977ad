pub mod Lines
pub mod Written
pub mod Records
pub mod Drafts
pub mod Verdicts
pub mod Texts
