pub mod Making
pub mod Answering
pub mod Fields
pub mod Keeping
