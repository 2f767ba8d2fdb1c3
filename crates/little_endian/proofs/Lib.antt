pub mod Front
pub mod Patterns
