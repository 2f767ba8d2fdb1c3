pub use Rattle.pop.proofs as laws_of_pop
pub mod Follow
pub mod Tests
pub mod Reading
