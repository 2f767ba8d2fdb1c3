pub use Rattle.mesh_readers.specs.of_frames as of_frames
pub use Rattle.pop.specs.of_live_windows as of_live_windows
pub use Rattle.pop.specs.of_trim_state as of_trim_state
pub use Rattle.pop.specs.of_trim_model as of_trim_model
pub use Rattle.pop.specs.of_better as of_better
pub use Rattle.pop.specs as of_pop
pub use Rattle.mesh_readers.specs as of_mesh_readers
pub use Rattle.distance_tests.specs.of_face_distance as of_face_distance
pub mod Lowered
pub mod Buffers
pub mod Finished
