pub use Rattle.piece_ends.specs as of_piece_ends
pub use Rattle.piece_ends.specs.of_edge_table as of_edge_table
pub mod Begin
