pub use Rattle.source_inserts.proofs.laws_of_trim_split as laws_of_trim_split
pub use Rattle.source_inserts.proofs.laws_of_wedge_refusal as laws_of_wedge_refusal
pub use Rattle.source_inserts.proofs.laws_of_face_entries as laws_of_face_entries
pub use Rattle.source_inserts.proofs.laws_of_live_windows as laws_of_live_windows
pub use Rattle.source_inserts.proofs.laws_of_trim_state as laws_of_trim_state
pub use Rattle.source_inserts.proofs.laws_of_mesh as laws_of_mesh
pub use Rattle.source_inserts.proofs.laws_of_mesh_laws as laws_of_mesh_laws
pub use Rattle.source_inserts.proofs as laws_of_source_inserts
pub use Rattle.source_inserts.proofs.laws_of_offers as laws_of_offers
pub use Rattle.source_inserts.proofs.laws_of_mesh_readers as laws_of_mesh_readers
pub mod Inserts
pub mod Calls
pub mod Split
