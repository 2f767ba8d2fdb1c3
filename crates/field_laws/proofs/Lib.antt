pub use Rattle.work_laws.proofs.laws_of_windows_there as laws_of_windows_there
pub mod Held
pub mod Job
pub mod Field
pub mod Entries
pub mod Lengths
pub mod Taken
pub mod Reasons
pub mod Demands
