pub use Rattle.source_inserts.specs.of_trim_model as of_trim_model
pub use Rattle.source_inserts.specs.of_better as of_better
pub use Rattle.source_inserts.specs.of_mesh_readers as of_mesh_readers
pub use Rattle.source_inserts.specs.of_mesh as of_mesh
pub use Rattle.source_inserts.specs.of_wedge_refusal as of_wedge_refusal
pub use Rattle.source_inserts.specs.of_piece_ends as of_piece_ends
pub use Rattle.source_inserts.specs.of_face_entries as of_face_entries
pub use Rattle.source_inserts.specs.of_trim as of_trim
pub use Rattle.source_inserts.specs.of_trim_split as of_trim_split
pub use Rattle.source_inserts.specs.of_cut_lists as of_cut_lists
pub use Rattle.source_inserts.specs.of_offers as of_offers
pub use Rattle.source_inserts.specs as of_source_inserts
pub mod Insertion
pub mod Snapshots
