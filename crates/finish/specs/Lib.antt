pub use Rattle.contents.specs.of_live_windows as of_live_windows
pub use Rattle.piece_ends.specs.of_edge_table as of_edge_table
pub use Rattle.last_pass.specs.of_pop as of_pop
pub use Rattle.last_pass.specs as of_last_pass
pub use Rattle.contents.specs as of_contents
pub use Rattle.offers.specs.of_trim_state as of_trim_state
pub use Rattle.zero_buffers.specs as of_zero_buffers
pub use Rattle.piece_ends.specs as of_piece_ends
pub use Rattle.face_entries.specs as of_face_entries
pub use Rattle.offers.specs as of_offers
pub use Rattle.offers.specs.of_trim as of_trim
pub mod Finish
pub mod Contents
pub mod Refused
