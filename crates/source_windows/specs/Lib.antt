pub mod Tolerance
pub mod Wedge
pub mod Segment
pub mod Ends
pub mod Back
