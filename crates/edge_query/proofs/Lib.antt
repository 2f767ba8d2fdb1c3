pub use Rattle.last_pass.proofs.laws_of_live_windows as laws_of_live_windows
pub use Rattle.last_pass.proofs as laws_of_last_pass
pub mod Forward
pub mod Halves
pub mod Least
pub mod Resume
