pub mod Patterns
pub mod Fields
pub mod Values
