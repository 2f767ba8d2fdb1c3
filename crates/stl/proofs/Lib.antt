pub mod Same
pub mod Agreeing
pub mod Written
pub mod Meshes
