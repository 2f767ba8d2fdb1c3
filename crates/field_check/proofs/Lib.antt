pub use Rattle.face_entries.proofs as laws_of_face_entries
pub mod Walks
pub mod Tests
