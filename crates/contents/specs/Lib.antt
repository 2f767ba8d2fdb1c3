pub use Rattle.live_windows.specs as of_live_windows
pub use Rattle.trim_model.specs as of_trim_model
pub mod Contents
