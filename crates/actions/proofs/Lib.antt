pub mod Play
pub mod Queueing
