pub use Rattle.edge_table.specs as of_edge_table
pub mod Ends
pub mod Table
pub mod Walk
pub mod Directions
