pub mod Answers
pub mod Families
pub mod Stored
