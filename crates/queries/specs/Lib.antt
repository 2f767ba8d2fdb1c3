pub use Rattle.field_check.specs.of_mesh as of_mesh
pub use Rattle.edge_query.specs.of_better as of_better
pub use Rattle.face_query.specs as of_face_query
pub use Rattle.edge_query.specs.of_face_distance as of_face_distance
pub use Rattle.edge_query.specs.of_last_pass as of_last_pass
pub use Rattle.edge_query.specs.of_trim_state as of_trim_state
pub use Rattle.field_check.specs.of_mesh_readers as of_mesh_readers
pub use Rattle.field_check.specs.of_frames as of_frames
pub use Rattle.field_check.specs.of_face_entries as of_face_entries
pub use Rattle.edge_query.specs.of_live_windows as of_live_windows
pub use Rattle.edge_query.specs.of_trim_model as of_trim_model
pub use Rattle.edge_query.specs as of_edge_query
pub use Rattle.field_check.specs as of_field_check
pub mod Answers
pub mod Queries
pub mod Told
