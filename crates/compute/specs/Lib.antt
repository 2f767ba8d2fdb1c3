pub use Rattle.make_field.specs as of_make_field
pub use Rattle.field_model.specs.of_field_work as of_field_work
pub use Rattle.make_field.specs.of_run_steps as of_run_steps
pub use Rattle.field_model.specs.of_last_pass as of_last_pass
pub use Rattle.field_model.specs.of_offers as of_offers
pub use Rattle.field_model.specs as of_field_model
pub use Rattle.field_model.specs.of_compute_spec as of_compute_spec
pub use Rattle.field_model.specs.of_finish as of_finish
pub use Rattle.field_model.specs.of_face_entries as of_face_entries
pub use Rattle.make_field.specs.of_begin as of_begin
pub use Rattle.field_model.specs.of_cut_lists as of_cut_lists
pub use Rattle.field_model.specs.of_mesh as of_mesh
pub use Rattle.field_model.specs.of_contents as of_contents
pub use Rattle.field_model.specs.of_live_windows as of_live_windows
pub use Rattle.field_model.specs.of_trim_model as of_trim_model
pub mod Answers
