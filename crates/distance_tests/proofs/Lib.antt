pub use Rattle.face_distance.proofs as laws_of_face_distance
pub mod Told
pub mod Foot
