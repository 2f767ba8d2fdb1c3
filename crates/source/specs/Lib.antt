pub mod Quadratic
pub mod Distance
