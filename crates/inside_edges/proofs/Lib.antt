pub use Rattle.source_inserts.proofs.laws_of_mesh_laws as laws_of_mesh_laws
pub use Rattle.source_inserts.proofs as laws_of_source_inserts
pub use Rattle.spread_offers.proofs as laws_of_spread_offers
pub mod Sources
pub mod Spread
pub mod Live
