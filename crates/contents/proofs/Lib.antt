pub use Rattle.live_windows.proofs as laws_of_live_windows
pub mod Held
pub mod Forgotten
