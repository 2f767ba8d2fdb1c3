pub mod Entries
pub mod Floors
