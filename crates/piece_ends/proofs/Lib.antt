pub use Rattle.edge_table.proofs as laws_of_edge_table
pub mod Passing
pub mod Following
pub mod Building
pub mod Seeking
pub mod Held
pub mod NormAbove
pub mod Unit
