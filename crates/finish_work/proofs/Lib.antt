pub use Rattle.run_steps.proofs as laws_of_run_steps
pub use Rattle.run_steps.proofs.laws_of_insert_job as laws_of_insert_job
pub use Rattle.finish.proofs.laws_of_live_windows as laws_of_live_windows
pub mod Ending
