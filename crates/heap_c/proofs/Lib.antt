pub mod Answers
pub mod Freed
