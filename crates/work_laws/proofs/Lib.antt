pub use Rattle.last_pass.proofs.laws_of_frames as laws_of_frames
pub use Rattle.field_work.proofs.laws_of_insert_job as laws_of_insert_job
pub use Rattle.inside_edges.proofs as laws_of_inside_edges
pub use Rattle.inside_edges.proofs.laws_of_mesh_laws as laws_of_mesh_laws
pub use Rattle.field_work.proofs.laws_of_windows_there as laws_of_windows_there
pub use Rattle.last_pass.proofs.laws_of_pop as laws_of_pop
pub use Rattle.last_pass.proofs.laws_of_mesh_readers as laws_of_mesh_readers
pub use Rattle.last_pass.proofs.laws_of_mesh as laws_of_mesh
pub use Rattle.inside_edges.proofs.laws_of_source_inserts as laws_of_source_inserts
pub use Rattle.last_pass.proofs as laws_of_last_pass
pub use Rattle.last_pass.proofs.laws_of_live_windows as laws_of_live_windows
pub use Rattle.last_pass.proofs.laws_of_trim_state as laws_of_trim_state
pub use Rattle.last_pass.proofs.laws_of_trim_model as laws_of_trim_model
pub mod Work
pub mod Recorded
pub mod Complete
pub mod Account
pub mod Inside
pub mod Zeros
pub mod Beyond
pub mod Stock
pub mod Laws
pub mod Stops
