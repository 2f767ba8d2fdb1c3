pub use Rattle.cut_lists.specs as of_cut_lists
pub use Rattle.live_windows.specs as of_live_windows
pub use Rattle.live_windows.specs.of_trim_state as of_trim_state
pub use Rattle.cut_lists.specs.of_trim_model as of_trim_model
pub use Rattle.cut_lists.specs.of_better as of_better
pub mod Trimmed
pub mod Running
