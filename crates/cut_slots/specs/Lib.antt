pub use Rattle.cut_lists.specs.of_trim_model as of_trim_model
pub use Rattle.cut_lists.specs.of_better as of_better
pub use Rattle.cut_lists.specs as of_cut_lists
pub mod Slots
