pub use Rattle.spread.specs.of_spread_offers as of_spread_offers
pub use Rattle.windows_there.specs as of_windows_there
pub use Rattle.windows_there.specs.of_trim_state as of_trim_state
pub mod Step
pub mod Contract
