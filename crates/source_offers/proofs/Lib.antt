pub use Rattle.candidate_laws.proofs as laws_of_candidate_laws
pub use Rattle.candidate_laws.proofs.laws_of_better as laws_of_better
pub use Rattle.offers.proofs.laws_of_live_windows as laws_of_live_windows
pub use Rattle.offers.proofs.laws_of_trim_state as laws_of_trim_state
pub use Rattle.candidate_laws.proofs.laws_of_mesh_laws as laws_of_mesh_laws
pub use Rattle.offers.proofs.laws_of_trim_split as laws_of_trim_split
pub use Rattle.candidate_laws.proofs.laws_of_trim_model as laws_of_trim_model
pub use Rattle.offers.proofs as laws_of_offers
pub use Rattle.offers.proofs.laws_of_mesh_readers as laws_of_mesh_readers
pub mod Steps
pub mod Held
pub mod Proper
