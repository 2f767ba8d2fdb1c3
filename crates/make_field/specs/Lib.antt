pub use Rattle.compute_spec.specs.of_run_steps as of_run_steps
pub use Rattle.compute_spec.specs.of_insertion as of_insertion
pub use Rattle.compute_spec.specs.of_begin as of_begin
pub mod Contract
