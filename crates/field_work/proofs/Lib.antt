pub use Rattle.run_steps.proofs.laws_of_insert_job as laws_of_insert_job
pub use Rattle.run_steps.proofs.laws_of_field_step as laws_of_field_step
pub use Rattle.run_steps.proofs.laws_of_windows_there as laws_of_windows_there
pub use Rattle.run_steps.proofs.laws_of_advance as laws_of_advance
pub mod Working
