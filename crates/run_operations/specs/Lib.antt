pub use Rattle.trim.specs.of_cut_lists as of_cut_lists
pub use Rattle.trim.specs as of_trim
pub use Rattle.trim_operations.specs as of_trim_operations
pub mod Lists
