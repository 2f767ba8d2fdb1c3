pub use Rattle.advance.specs.of_cut_lists as of_cut_lists
pub use Rattle.finish.specs.of_zero_buffers as of_zero_buffers
pub use Rattle.advance.specs.of_insertion as of_insertion
pub use Rattle.finish.specs.of_edge_table as of_edge_table
pub use Rattle.finish.specs.of_trim_state as of_trim_state
pub use Rattle.advance.specs as of_advance
pub use Rattle.advance.specs.of_field_step as of_field_step
pub use Rattle.finish.specs.of_trim as of_trim
pub use Rattle.advance.specs.of_trim_split as of_trim_split
pub mod Turns
