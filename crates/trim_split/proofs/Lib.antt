pub use Rattle.cut_lists.proofs.laws_of_better as laws_of_better
pub use Rattle.cut_lists.proofs as laws_of_cut_lists
pub use Rattle.live_windows.proofs as laws_of_live_windows
pub use Rattle.live_windows.proofs.laws_of_trim_state as laws_of_trim_state
pub use Rattle.cut_lists.proofs.laws_of_trim_model as laws_of_trim_model
pub mod Edges
pub mod Untouched
pub mod Running
pub mod Parts
pub mod Loops
