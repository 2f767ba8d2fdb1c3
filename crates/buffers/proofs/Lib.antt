pub mod Strides
pub mod Zeroing
