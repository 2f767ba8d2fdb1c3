pub mod Bits
pub mod Scalar
pub mod TotalOrder
pub mod Decimal
