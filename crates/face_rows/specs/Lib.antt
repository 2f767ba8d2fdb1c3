pub use Rattle.queries.specs as of_queries
pub use Rattle.queries.specs.of_field_check as of_field_check
pub mod FaceAnswers
