pub mod Any
pub mod Edge
pub mod Job
pub mod Refusals
pub mod Sound
