pub use Rattle.compute_spec.specs.of_field_work as of_field_work
pub use Rattle.compute_spec.specs.of_last_pass as of_last_pass
pub use Rattle.compute_spec.specs.of_live_windows as of_live_windows
pub use Rattle.compute_spec.specs.of_trim_model as of_trim_model
pub use Rattle.compute_spec.specs.of_mesh as of_mesh
pub use Rattle.compute_spec.specs.of_zero_buffers as of_zero_buffers
pub use Rattle.compute_spec.specs.of_edge_table as of_edge_table
pub use Rattle.compute_spec.specs.of_cut_lists as of_cut_lists
pub use Rattle.compute_spec.specs.of_piece_ends as of_piece_ends
pub use Rattle.compute_spec.specs as of_compute_spec
pub use Rattle.compute_spec.specs.of_finish as of_finish
pub use Rattle.compute_spec.specs.of_cut_slots as of_cut_slots
pub use Rattle.compute_spec.specs.of_face_entries as of_face_entries
pub use Rattle.compute_spec.specs.of_offers as of_offers
pub use Rattle.compute_spec.specs.of_contents as of_contents
pub mod Queue
pub mod Field
pub mod Job
pub mod Lent
