pub use Rattle.spread_offers.proofs as laws_of_spread_offers
pub use Rattle.spread_offers.proofs.laws_of_trim_split as laws_of_trim_split
pub mod Laws
