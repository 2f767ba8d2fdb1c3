pub mod Held
pub mod Rows
pub mod Turns
