pub use Rattle.source_windows.specs as of_source_windows
pub use Rattle.mesh_readers.specs as of_mesh_readers
pub mod Carrier
pub mod Nearest
