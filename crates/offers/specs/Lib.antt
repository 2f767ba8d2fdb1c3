pub use Rattle.trim.specs.of_trim_state as of_trim_state
pub use Rattle.trim.specs as of_trim
pub use Rattle.trim.specs.of_trim_split as of_trim_split
pub use Rattle.trim.specs.of_cut_lists as of_cut_lists
pub use Rattle.mesh_readers.specs as of_mesh_readers
pub use Rattle.mesh_readers.specs.of_frames as of_frames
pub mod Each
pub mod Offers
pub mod Walks
