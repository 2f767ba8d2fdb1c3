pub use Rattle.source_windows.proofs as laws_of_source_windows
pub mod Infinity
pub mod Ends
