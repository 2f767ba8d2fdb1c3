pub use Rattle.source_offers.proofs.laws_of_trim_split as laws_of_trim_split
pub use Rattle.propagation.proofs as laws_of_propagation
pub use Rattle.source_offers.proofs as laws_of_source_offers
pub use Rattle.source_offers.proofs.laws_of_candidate_laws as laws_of_candidate_laws
pub use Rattle.propagation.proofs.laws_of_source_windows as laws_of_source_windows
pub use Rattle.source_offers.proofs.laws_of_better as laws_of_better
pub use Rattle.source_offers.proofs.laws_of_offers as laws_of_offers
pub mod Steps
pub mod Held
pub mod Numbered
pub mod Proper
