pub use Rattle.field_model.specs as of_field_model
pub use Rattle.field_model.specs.of_compute_spec as of_compute_spec
pub use Rattle.field_model.specs.of_finish as of_finish
pub use Rattle.work_laws.specs.of_windows_there as of_windows_there
pub mod Demands
