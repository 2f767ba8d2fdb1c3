pub mod Edges
pub mod Frames
pub mod Pieces
pub mod Vectors
pub mod Decimal
