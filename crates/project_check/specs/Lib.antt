pub mod Subjects
pub mod Checked
