pub mod Whole
pub mod Plain
