pub use Rattle.pop.proofs.laws_of_live_windows as laws_of_live_windows
pub use Rattle.pop.proofs as laws_of_pop
pub use Rattle.pop.proofs.laws_of_trim_state as laws_of_trim_state
pub use Rattle.pop.proofs.laws_of_trim_model as laws_of_trim_model
pub mod Added
pub mod Kept
pub mod Sides
pub mod Inserted
pub mod Passed
pub mod Events
