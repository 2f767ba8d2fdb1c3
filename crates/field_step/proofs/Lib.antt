pub use Rattle.windows_there.proofs as laws_of_windows_there
pub use Rattle.windows_there.proofs.laws_of_trim_model as laws_of_trim_model
pub mod Leaves
pub mod Turns
pub mod Stepping
