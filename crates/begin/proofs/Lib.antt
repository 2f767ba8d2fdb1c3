pub use Rattle.piece_ends.proofs as laws_of_piece_ends
pub use Rattle.frames.proofs as laws_of_frames
pub use Rattle.piece_ends.proofs.laws_of_edge_table as laws_of_edge_table
pub mod Vertices
