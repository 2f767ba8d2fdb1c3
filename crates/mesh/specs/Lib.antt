pub use Rattle.frames.specs as of_frames
pub mod Topology
pub mod Answer
pub mod Held
