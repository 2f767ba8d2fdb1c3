pub mod Parts
pub mod Rows
pub mod Pieces
pub mod Walk
pub mod RoundTrip
pub mod Written
pub mod Stands
pub mod Back
