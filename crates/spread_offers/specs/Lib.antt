pub use Rattle.propagation.specs as of_propagation
pub use Rattle.source_offers.specs as of_source_offers
pub use Rattle.propagation.specs.of_source_windows as of_source_windows
pub use Rattle.source_offers.specs.of_mesh_laws as of_mesh_laws
pub use Rattle.source_offers.specs.of_mesh_readers as of_mesh_readers
pub use Rattle.source_offers.specs.of_offers as of_offers
pub use Rattle.source_offers.specs.of_trim as of_trim
pub use Rattle.source_offers.specs.of_trim_split as of_trim_split
pub use Rattle.source_offers.specs.of_cut_lists as of_cut_lists
pub mod Offering
pub mod Spreading
