pub use Rattle.finish_work.proofs.laws_of_run_steps as laws_of_run_steps
pub use Rattle.finish_work.proofs.laws_of_insert_job as laws_of_insert_job
pub mod Making
