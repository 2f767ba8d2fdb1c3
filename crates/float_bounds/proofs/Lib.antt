pub mod Magnitude
pub mod Reciprocal
pub mod Ends
pub mod RoundingError
