pub use Rattle.wedge_refusal.specs.of_carriers as of_carriers
pub use Rattle.point_wedge.specs as of_point_wedge
pub use Rattle.source_offers.specs.of_mesh_readers as of_mesh_readers
pub use Rattle.face_entries.specs.of_mesh as of_mesh
pub use Rattle.wedge_refusal.specs as of_wedge_refusal
pub use Rattle.wedge_refusal.specs.of_piece_ends as of_piece_ends
pub use Rattle.source_offers.specs.of_trim_state as of_trim_state
pub use Rattle.source_offers.specs.of_trim_model as of_trim_model
pub use Rattle.source_offers.specs.of_better as of_better
pub use Rattle.face_entries.specs as of_face_entries
pub use Rattle.source_offers.specs.of_offers as of_offers
pub use Rattle.source_offers.specs.of_trim as of_trim
pub use Rattle.source_offers.specs.of_trim_split as of_trim_split
pub use Rattle.source_offers.specs.of_cut_lists as of_cut_lists
pub mod Inserts
pub mod Read
