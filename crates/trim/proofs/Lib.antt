pub use Rattle.trim_visit.proofs.laws_of_live_windows as laws_of_live_windows
pub use Rattle.trim_visit.proofs.laws_of_trim_split as laws_of_trim_split
pub use Rattle.trim_visit.proofs.laws_of_trim_state as laws_of_trim_state
pub use Rattle.trim_visit.proofs.laws_of_trim_model as laws_of_trim_model
pub mod Front
pub mod Adding
pub mod Calls
