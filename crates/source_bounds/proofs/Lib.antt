pub mod Parts
pub mod Squares
pub mod Hypot
pub mod Values
pub mod Enclosed
pub mod Shifted
pub mod Decimal
