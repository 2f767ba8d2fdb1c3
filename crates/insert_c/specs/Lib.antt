pub use Rattle.insert_job.specs.of_begin as of_begin
pub use Rattle.insert_job.specs.of_mesh as of_mesh
pub use Rattle.job_checks.specs as of_job_checks
pub use Rattle.cut_slots.specs.of_cut_lists as of_cut_lists
pub use Rattle.insert_job.specs as of_insert_job
pub use Rattle.cut_slots.specs as of_cut_slots
pub mod Exports
