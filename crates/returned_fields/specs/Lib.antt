pub mod Held
pub mod ByLists
