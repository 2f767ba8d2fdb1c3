pub use Rattle.trim_visit.specs.of_live_windows as of_live_windows
pub use Rattle.trim_visit.specs.of_trim_state as of_trim_state
pub use Rattle.trim_visit.specs.of_trim_model as of_trim_model
pub use Rattle.trim_visit.specs.of_better as of_better
pub use Rattle.trim_visit.specs.of_trim_split as of_trim_split
pub use Rattle.trim_visit.specs.of_cut_lists as of_cut_lists
pub mod Buffers
pub mod Adding
