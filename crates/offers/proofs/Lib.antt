pub use Rattle.trim.proofs.laws_of_live_windows as laws_of_live_windows
pub use Rattle.trim.proofs.laws_of_trim_state as laws_of_trim_state
pub use Rattle.trim.proofs.laws_of_trim_split as laws_of_trim_split
pub use Rattle.mesh_readers.proofs as laws_of_mesh_readers
pub mod Each
pub mod Offers
pub mod Calls
pub mod Walks
pub mod Loop
