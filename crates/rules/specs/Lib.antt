pub mod Partners
pub mod Seen
