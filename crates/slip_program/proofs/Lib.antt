pub mod Alive
pub mod Read
pub mod Texts
