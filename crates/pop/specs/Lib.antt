pub use Rattle.live_windows.specs as of_live_windows
pub use Rattle.trim_state.specs as of_trim_state
pub use Rattle.trim_model.specs as of_trim_model
pub use Rattle.better.specs as of_better
pub mod Words
pub mod State
