pub use Rattle.frames.specs as of_frames
pub mod Held
pub mod Readers
pub mod Sides
