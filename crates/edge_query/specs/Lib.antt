pub use Rattle.last_pass.specs.of_better as of_better
pub use Rattle.last_pass.specs.of_face_distance as of_face_distance
pub use Rattle.last_pass.specs.of_trim_state as of_trim_state
pub use Rattle.last_pass.specs.of_live_windows as of_live_windows
pub use Rattle.last_pass.specs.of_trim_model as of_trim_model
pub use Rattle.last_pass.specs as of_last_pass
pub mod EdgeDistance
pub mod Forward
pub mod Halves
pub mod Resume
