pub mod Bounds
pub mod Values
pub mod Walks
pub mod Ranges
