pub use Rattle.face_distance.specs as of_face_distance
