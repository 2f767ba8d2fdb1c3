pub use Rattle.edge_query.proofs.laws_of_last_pass as laws_of_last_pass
pub use Rattle.edge_query.proofs.laws_of_live_windows as laws_of_live_windows
pub use Rattle.field_check.proofs.laws_of_face_entries as laws_of_face_entries
pub use Rattle.field_check.proofs as laws_of_field_check
pub use Rattle.edge_query.proofs as laws_of_edge_query
pub mod Checked
pub mod Places
pub mod Numbers
pub mod Halves
pub mod Told
