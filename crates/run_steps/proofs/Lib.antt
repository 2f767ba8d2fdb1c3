pub use Rattle.advance.proofs.laws_of_field_step as laws_of_field_step
pub use Rattle.insert_job.proofs as laws_of_insert_job
pub use Rattle.advance.proofs as laws_of_advance
pub use Rattle.advance.proofs.laws_of_windows_there as laws_of_windows_there
pub use Rattle.advance.proofs.laws_of_trim_split as laws_of_trim_split
pub use Rattle.advance.proofs.laws_of_mesh_laws as laws_of_mesh_laws
pub mod Running
