pub use Rattle.field_step.proofs as laws_of_field_step
pub use Rattle.field_step.proofs.laws_of_windows_there as laws_of_windows_there
pub use Rattle.insertion.proofs.laws_of_trim_split as laws_of_trim_split
pub use Rattle.insertion.proofs.laws_of_mesh_laws as laws_of_mesh_laws
pub mod More
pub mod Loop
pub mod Begin
