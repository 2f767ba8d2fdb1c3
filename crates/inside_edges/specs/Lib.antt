pub use Rattle.source_inserts.specs.of_point_wedge as of_point_wedge
pub use Rattle.source_inserts.specs.of_carriers as of_carriers
pub use Rattle.spread_offers.specs.of_source_offers as of_source_offers
pub use Rattle.spread_offers.specs.of_source_windows as of_source_windows
pub use Rattle.source_inserts.specs.of_face_entries as of_face_entries
pub use Rattle.spread_offers.specs.of_offers as of_offers
pub use Rattle.spread_offers.specs.of_cut_lists as of_cut_lists
pub use Rattle.spread_offers.specs.of_mesh_laws as of_mesh_laws
pub mod Inside
