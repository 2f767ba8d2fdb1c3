pub use Rattle.carriers.proofs.laws_of_source_windows as laws_of_source_windows
pub use Rattle.segments_behind.proofs.laws_of_piece_ends as laws_of_piece_ends
pub use Rattle.carriers.proofs as laws_of_carriers
pub mod Answers
pub mod Held
