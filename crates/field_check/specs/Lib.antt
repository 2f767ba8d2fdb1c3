pub use Rattle.face_entries.specs.of_mesh as of_mesh
pub use Rattle.face_entries.specs as of_face_entries
pub use Rattle.mesh_readers.specs as of_mesh_readers
pub use Rattle.frames.specs as of_frames
pub mod Chains
pub mod FieldCheck
