pub use Rattle.frames.proofs as laws_of_frames
pub use Rattle.mesh.proofs as laws_of_mesh
pub mod Held
pub mod Mesh
pub mod Round
pub mod Sides
pub mod Steps
