pub mod Scalar
pub mod TotalOrder
pub mod Notation
