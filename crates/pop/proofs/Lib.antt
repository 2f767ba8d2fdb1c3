pub use Rattle.live_windows.proofs as laws_of_live_windows
pub use Rattle.trim_state.proofs as laws_of_trim_state
pub use Rattle.trim_model.proofs as laws_of_trim_model
pub mod Claimed
pub mod Calls
pub mod Pending
pub mod Answers
