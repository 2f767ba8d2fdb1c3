pub use Rattle.pop.specs as of_pop
pub mod Operations
pub mod Run
pub mod Demand3
pub mod Represents
