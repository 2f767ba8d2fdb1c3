pub use Rattle.trim_model.specs as of_trim_model
pub use Rattle.better.specs as of_better
pub use Rattle.mesh_laws.specs as of_mesh_laws
pub use Rattle.source_windows.specs as of_source_windows
