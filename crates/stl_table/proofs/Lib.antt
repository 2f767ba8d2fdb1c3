pub mod Bits
pub mod Following
pub mod Entering
