pub use Rattle.mesh.proofs as laws_of_mesh
pub mod Calls
pub mod Numbers
pub mod Linking
pub mod Keeping
pub mod Answers
pub mod Content
pub mod Walking
