pub use Rattle.begin.specs.of_piece_ends as of_piece_ends
pub use Rattle.insert_sources.specs.of_trim as of_trim
pub use Rattle.insert_sources.specs.of_insertion as of_insertion
pub use Rattle.begin.specs as of_begin
pub use Rattle.insert_sources.specs.of_mesh as of_mesh
pub mod Field
pub mod Job
