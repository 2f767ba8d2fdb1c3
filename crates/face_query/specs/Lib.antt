pub mod FaceDistance
pub mod Lows
