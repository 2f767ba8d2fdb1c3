pub use Rattle.wedge_refusal.proofs as laws_of_wedge_refusal
pub use Rattle.source_offers.proofs.laws_of_live_windows as laws_of_live_windows
pub use Rattle.source_offers.proofs.laws_of_trim_state as laws_of_trim_state
pub use Rattle.face_entries.proofs.laws_of_mesh as laws_of_mesh
pub use Rattle.source_offers.proofs.laws_of_mesh_laws as laws_of_mesh_laws
pub use Rattle.source_offers.proofs.laws_of_mesh_readers as laws_of_mesh_readers
pub use Rattle.source_offers.proofs.laws_of_offers as laws_of_offers
pub use Rattle.face_entries.proofs as laws_of_face_entries
pub use Rattle.source_offers.proofs.laws_of_trim_split as laws_of_trim_split
pub use Rattle.source_offers.proofs.laws_of_trim_model as laws_of_trim_model
pub mod Steps
pub mod Job
pub mod Held
pub mod Each
pub mod There
pub mod Proper
