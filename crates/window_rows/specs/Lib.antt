pub use Rattle.query_rows.specs.of_queries as of_queries
pub use Rattle.query_rows.specs.of_field_check as of_field_check
pub use Rattle.query_rows.specs as of_query_rows
pub mod WindowRows
