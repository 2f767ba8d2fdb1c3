pub use Rattle.make_field.proofs as laws_of_make_field
pub use Rattle.field_model.proofs as laws_of_field_model
pub use Rattle.field_model.proofs.laws_of_compute_spec as laws_of_compute_spec
pub use Rattle.field_model.proofs.laws_of_field_work as laws_of_field_work
pub use Rattle.make_field.proofs.laws_of_run_steps as laws_of_run_steps
pub mod Told
pub mod Computing
