pub use Rattle.trim_split.specs.of_cut_lists as of_cut_lists
pub use Rattle.trim_split.specs as of_trim_split
pub use Rattle.trim_split.specs.of_live_windows as of_live_windows
pub use Rattle.trim_split.specs.of_trim_state as of_trim_state
pub use Rattle.trim_split.specs.of_trim_model as of_trim_model
pub use Rattle.trim_split.specs.of_better as of_better
pub mod Visiting
