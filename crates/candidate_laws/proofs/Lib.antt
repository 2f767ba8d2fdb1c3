pub use Rattle.better.proofs as laws_of_better
pub use Rattle.mesh_laws.proofs as laws_of_mesh_laws
pub use Rattle.trim_model.proofs as laws_of_trim_model
pub use Rattle.source_windows.proofs as laws_of_source_windows
pub mod Admitted
