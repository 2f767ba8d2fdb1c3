pub use Rattle.run_steps.specs.of_windows_there as of_windows_there
pub use Rattle.run_steps.specs.of_spread_offers as of_spread_offers
pub use Rattle.run_steps.specs.of_source_inserts as of_source_inserts
pub use Rattle.run_steps.specs.of_advance as of_advance
pub use Rattle.run_steps.specs.of_field_step as of_field_step
pub use Rattle.run_steps.specs as of_run_steps
pub use Rattle.run_steps.specs.of_insert_job as of_insert_job
pub use Rattle.run_steps.specs.of_begin as of_begin
pub use Rattle.run_steps.specs.of_insertion as of_insertion
pub use Rattle.run_steps.specs.of_mesh as of_mesh
pub use Rattle.run_steps.specs.of_trim as of_trim
pub mod Work
pub mod Contract
