pub use Rattle.trim_model.proofs as laws_of_trim_model
pub use Rattle.better.proofs as laws_of_better
pub mod Entries
pub mod Pushes
pub mod Cutting
