pub use Rattle.segments_behind.specs.of_piece_ends as of_piece_ends
pub use Rattle.carriers.specs as of_carriers
pub use Rattle.carriers.specs.of_source_windows as of_source_windows
pub mod Wedge
pub mod Held
