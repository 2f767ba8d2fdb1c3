pub use Rattle.finish.specs.of_trim as of_trim
pub mod FinishWork
