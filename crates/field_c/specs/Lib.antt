pub mod Exports
pub mod Asked
pub mod Slips
