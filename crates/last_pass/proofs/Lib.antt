pub use Rattle.mesh_readers.proofs.laws_of_frames as laws_of_frames
pub use Rattle.mesh_readers.proofs as laws_of_mesh_readers
pub use Rattle.mesh_readers.proofs.laws_of_mesh as laws_of_mesh
pub use Rattle.pop.proofs as laws_of_pop
pub use Rattle.pop.proofs.laws_of_live_windows as laws_of_live_windows
pub use Rattle.pop.proofs.laws_of_trim_state as laws_of_trim_state
pub use Rattle.pop.proofs.laws_of_trim_model as laws_of_trim_model
pub use Rattle.distance_tests.proofs.laws_of_face_distance as laws_of_face_distance
pub mod Chains
pub mod Turns
pub mod Held
pub mod Sources
pub mod Lows
pub mod Recorded
pub mod Finished
