pub mod Buckets
pub mod Holding
pub mod Reading
pub mod Seeking
pub mod Turns
pub mod Unlinking
pub mod Whole
