pub use Rattle.last_pass.specs.of_mesh_readers as of_mesh_readers
pub use Rattle.field_work.specs.of_begin as of_begin
pub use Rattle.inside_edges.specs as of_inside_edges
pub use Rattle.inside_edges.specs.of_mesh_laws as of_mesh_laws
pub use Rattle.field_work.specs.of_insert_job as of_insert_job
pub use Rattle.field_work.specs.of_field_step as of_field_step
pub use Rattle.field_work.specs.of_windows_there as of_windows_there
pub use Rattle.last_pass.specs.of_frames as of_frames
pub use Rattle.field_work.specs.of_source_inserts as of_source_inserts
pub use Rattle.inside_edges.specs.of_point_wedge as of_point_wedge
pub use Rattle.inside_edges.specs.of_carriers as of_carriers
pub use Rattle.inside_edges.specs.of_source_offers as of_source_offers
pub use Rattle.inside_edges.specs.of_source_windows as of_source_windows
pub use Rattle.last_pass.specs as of_last_pass
pub use Rattle.field_work.specs as of_field_work
pub use Rattle.field_work.specs.of_run_steps as of_run_steps
pub use Rattle.field_work.specs.of_insertion as of_insertion
pub use Rattle.last_pass.specs.of_live_windows as of_live_windows
pub use Rattle.last_pass.specs.of_trim_state as of_trim_state
pub use Rattle.last_pass.specs.of_trim_model as of_trim_model
pub use Rattle.field_work.specs.of_mesh as of_mesh
pub use Rattle.last_pass.specs.of_better as of_better
pub mod Kept
pub mod Account
pub mod Laws
