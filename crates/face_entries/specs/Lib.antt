pub use Rattle.mesh.specs as of_mesh
pub use Rattle.mesh.specs.of_frames as of_frames
pub mod Buffers
pub mod Entries
