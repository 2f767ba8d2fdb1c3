pub use Rattle.contents.proofs.laws_of_live_windows as laws_of_live_windows
pub use Rattle.piece_ends.proofs.laws_of_edge_table as laws_of_edge_table
pub use Rattle.offers.proofs as laws_of_offers
pub use Rattle.piece_ends.proofs as laws_of_piece_ends
pub use Rattle.face_entries.proofs as laws_of_face_entries
pub use Rattle.offers.proofs.laws_of_trim_state as laws_of_trim_state
pub use Rattle.face_entries.proofs.laws_of_mesh as laws_of_mesh
pub mod Edges
pub mod Contents
pub mod Spare
pub mod Refused
