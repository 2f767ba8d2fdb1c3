pub mod Counting
pub mod Lists
pub mod Passes
pub mod Queries
pub mod Returned
