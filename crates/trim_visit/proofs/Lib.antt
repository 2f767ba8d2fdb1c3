pub use Rattle.trim_split.proofs.laws_of_better as laws_of_better
pub use Rattle.trim_split.proofs as laws_of_trim_split
pub use Rattle.trim_split.proofs.laws_of_live_windows as laws_of_live_windows
pub use Rattle.trim_split.proofs.laws_of_trim_state as laws_of_trim_state
pub use Rattle.trim_split.proofs.laws_of_trim_model as laws_of_trim_model
pub mod Walks
pub mod Lists
pub mod Turns
pub mod Loop
pub mod Meeting
