pub mod Pops
pub mod Steps
pub mod Candidates
pub mod Loop
pub mod Whole
