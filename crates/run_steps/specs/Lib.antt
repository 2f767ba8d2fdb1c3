pub use Rattle.advance.specs.of_spread_offers as of_spread_offers
pub use Rattle.insert_job.specs.of_piece_ends as of_piece_ends
pub use Rattle.advance.specs.of_trim_split as of_trim_split
pub use Rattle.insert_job.specs as of_insert_job
pub use Rattle.advance.specs as of_advance
pub use Rattle.advance.specs.of_field_step as of_field_step
pub use Rattle.advance.specs.of_windows_there as of_windows_there
pub use Rattle.insert_job.specs.of_begin as of_begin
pub use Rattle.insert_job.specs.of_insertion as of_insertion
pub use Rattle.advance.specs.of_source_inserts as of_source_inserts
pub use Rattle.advance.specs.of_face_entries as of_face_entries
pub use Rattle.advance.specs.of_offers as of_offers
pub use Rattle.advance.specs.of_trim_model as of_trim_model
pub use Rattle.insert_job.specs.of_trim as of_trim
pub use Rattle.advance.specs.of_cut_lists as of_cut_lists
pub use Rattle.insert_job.specs.of_mesh as of_mesh
pub mod Run
pub mod Contract
