pub mod Partly
pub mod Written
