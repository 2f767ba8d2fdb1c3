pub use Rattle.insert_job.proofs as laws_of_insert_job
pub use Rattle.cut_slots.proofs as laws_of_cut_slots
pub mod Told
pub mod Answers
