pub use Rattle.source_windows.specs as of_source_windows
pub mod Plane
pub mod Propagate
pub mod Clipped
