pub use Rattle.spread_offers.specs.of_mesh_readers as of_mesh_readers
pub use Rattle.spread_offers.specs.of_mesh_laws as of_mesh_laws
pub use Rattle.spread_offers.specs.of_offers as of_offers
pub use Rattle.spread_offers.specs.of_trim as of_trim
pub use Rattle.spread_offers.specs.of_trim_split as of_trim_split
pub use Rattle.spread_offers.specs.of_cut_lists as of_cut_lists
pub use Rattle.spread_offers.specs as of_spread_offers
pub mod Walk
