pub use Rattle.insertion.specs as of_insertion
pub use Rattle.field_step.specs.of_spread_offers as of_spread_offers
pub use Rattle.field_step.specs.of_windows_there as of_windows_there
pub use Rattle.insertion.specs.of_source_inserts as of_source_inserts
pub use Rattle.insertion.specs.of_offers as of_offers
pub use Rattle.field_step.specs as of_field_step
pub use Rattle.insertion.specs.of_face_entries as of_face_entries
pub use Rattle.insertion.specs.of_trim_split as of_trim_split
pub use Rattle.insertion.specs.of_cut_lists as of_cut_lists
pub use Rattle.field_step.specs.of_trim_state as of_trim_state
pub use Rattle.insertion.specs.of_trim_model as of_trim_model
pub mod Advance
pub mod Contract
