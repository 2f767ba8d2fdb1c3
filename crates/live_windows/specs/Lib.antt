pub use Rattle.trim_state.specs as of_trim_state
pub mod Live
