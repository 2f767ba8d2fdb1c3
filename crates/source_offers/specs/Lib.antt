pub use Rattle.offers.specs.of_trim_state as of_trim_state
pub use Rattle.offers.specs.of_trim as of_trim
pub use Rattle.offers.specs.of_trim_split as of_trim_split
pub use Rattle.offers.specs.of_cut_lists as of_cut_lists
pub use Rattle.candidate_laws.specs.of_better as of_better
pub use Rattle.candidate_laws.specs.of_mesh_laws as of_mesh_laws
pub use Rattle.candidate_laws.specs.of_trim_model as of_trim_model
pub use Rattle.offers.specs as of_offers
pub use Rattle.offers.specs.of_mesh_readers as of_mesh_readers
pub use Rattle.offers.specs.of_frames as of_frames
pub mod Offering
