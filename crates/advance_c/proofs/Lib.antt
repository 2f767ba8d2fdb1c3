pub use Rattle.finish.proofs.laws_of_edge_table as laws_of_edge_table
pub use Rattle.finish.proofs.laws_of_offers as laws_of_offers
pub use Rattle.advance.proofs.laws_of_trim_split as laws_of_trim_split
pub use Rattle.advance.proofs as laws_of_advance
pub mod Turning
