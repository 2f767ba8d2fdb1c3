pub use Rattle.queries.proofs.laws_of_field_check as laws_of_field_check
pub use Rattle.queries.proofs as laws_of_queries
pub mod Low
