pub mod Small
pub mod Putting
