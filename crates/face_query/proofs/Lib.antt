pub mod Lows
pub mod Steps
pub mod Walks
