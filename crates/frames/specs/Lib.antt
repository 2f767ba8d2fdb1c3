pub mod Held
pub mod Stored
