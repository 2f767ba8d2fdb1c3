pub use Rattle.trim_state.proofs as laws_of_trim_state
pub mod Places
pub mod Stored
pub mod Walks
pub mod Lists
pub mod Seats
pub mod Standing
pub mod Fronts
pub mod Few
pub mod Changed
pub mod Made
pub mod Killed
