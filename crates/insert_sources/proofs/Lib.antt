pub use Rattle.insertion.proofs.laws_of_source_inserts as laws_of_source_inserts
pub use Rattle.insertion.proofs.laws_of_wedge_refusal as laws_of_wedge_refusal
pub use Rattle.insertion.proofs.laws_of_face_entries as laws_of_face_entries
pub use Rattle.insertion.proofs.laws_of_live_windows as laws_of_live_windows
pub use Rattle.insertion.proofs.laws_of_trim_state as laws_of_trim_state
pub use Rattle.insertion.proofs.laws_of_mesh_readers as laws_of_mesh_readers
pub use Rattle.insertion.proofs.laws_of_mesh as laws_of_mesh
pub use Rattle.insertion.proofs.laws_of_mesh_laws as laws_of_mesh_laws
pub mod Lists
pub mod Loop
pub mod Sources
