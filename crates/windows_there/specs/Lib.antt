pub use Rattle.pop.specs as of_pop
pub use Rattle.pop.specs.of_live_windows as of_live_windows
pub use Rattle.pop.specs.of_trim_state as of_trim_state
pub use Rattle.pop.specs.of_trim_model as of_trim_model
pub mod There
