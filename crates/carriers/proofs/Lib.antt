pub use Rattle.source_windows.proofs as laws_of_source_windows
pub use Rattle.mesh_readers.proofs as laws_of_mesh_readers
pub mod Held
pub mod Faces
pub mod Steps
