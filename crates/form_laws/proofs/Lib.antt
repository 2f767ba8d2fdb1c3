pub mod Numbers
pub mod Turns
pub mod Back
pub mod Same
pub mod MovedBytes
pub mod OneJob
pub mod Readers
