pub mod Approximation
pub mod Words
