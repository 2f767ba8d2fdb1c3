pub use Rattle.compute_spec.proofs.laws_of_field_work as laws_of_field_work
pub use Rattle.compute_spec.proofs.laws_of_edge_table as laws_of_edge_table
pub use Rattle.compute_spec.proofs as laws_of_compute_spec
pub use Rattle.compute_spec.proofs.laws_of_offers as laws_of_offers
pub use Rattle.compute_spec.proofs.laws_of_piece_ends as laws_of_piece_ends
pub use Rattle.compute_spec.proofs.laws_of_finish as laws_of_finish
pub use Rattle.compute_spec.proofs.laws_of_face_entries as laws_of_face_entries
pub mod Lawful
pub mod Queues
pub mod Numbers
pub mod Playing
pub mod Adding
pub mod Turns
pub mod Loop
pub mod Inserting
pub mod Candidates
pub mod Flags
pub mod Whole
pub mod Leaving
