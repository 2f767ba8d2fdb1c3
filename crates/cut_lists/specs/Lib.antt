pub use Rattle.better.specs as of_better
pub use Rattle.trim_model.specs as of_trim_model
pub mod Buffers
pub mod Cut
