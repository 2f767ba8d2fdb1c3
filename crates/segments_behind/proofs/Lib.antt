pub use Rattle.frames.proofs as laws_of_frames
pub use Rattle.piece_ends.proofs as laws_of_piece_ends
pub mod Finding
pub mod Held
pub mod Listed
