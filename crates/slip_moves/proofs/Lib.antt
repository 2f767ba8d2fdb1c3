pub mod Parts
pub mod Reach
pub mod Heads
pub mod Ways
pub mod Whole
