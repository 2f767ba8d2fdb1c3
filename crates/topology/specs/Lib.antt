pub mod Checked
pub mod Edges
pub mod Frames
pub mod Rows
