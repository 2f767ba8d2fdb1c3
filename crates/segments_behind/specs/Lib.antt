pub use Rattle.frames.specs as of_frames
pub use Rattle.piece_ends.specs as of_piece_ends
pub mod Behind
pub mod Round
