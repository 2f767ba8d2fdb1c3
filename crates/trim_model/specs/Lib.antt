pub mod Intervals
pub mod Windows
pub mod Add
pub mod Model
pub mod Claim
pub mod Seat
