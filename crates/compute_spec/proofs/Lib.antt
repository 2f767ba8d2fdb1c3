pub use Rattle.field_work.proofs as laws_of_field_work
pub use Rattle.finish.proofs.laws_of_edge_table as laws_of_edge_table
pub use Rattle.finish.proofs.laws_of_offers as laws_of_offers
pub use Rattle.finish.proofs.laws_of_piece_ends as laws_of_piece_ends
pub use Rattle.finish.proofs as laws_of_finish
pub use Rattle.finish.proofs.laws_of_face_entries as laws_of_face_entries
pub use Rattle.finish.proofs.laws_of_trim_state as laws_of_trim_state
pub use Rattle.cut_slots.proofs.laws_of_trim_model as laws_of_trim_model
pub use Rattle.finish.proofs.laws_of_mesh as laws_of_mesh
pub use Rattle.field_work.proofs.laws_of_advance as laws_of_advance
pub mod Refusals
pub mod Contents
