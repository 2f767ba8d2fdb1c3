pub mod Trace
pub mod State
pub mod Follows
