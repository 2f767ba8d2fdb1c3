pub mod Steps
pub mod Then
pub mod Calling
pub mod Whole
