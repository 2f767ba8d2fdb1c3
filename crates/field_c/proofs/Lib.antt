pub mod Told
pub mod Asking
pub mod Slipped
