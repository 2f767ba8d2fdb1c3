pub use Rattle.face_rows.proofs.laws_of_queries as laws_of_queries
pub mod Elements
