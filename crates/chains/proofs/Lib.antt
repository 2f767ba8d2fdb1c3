pub mod Turns
pub mod Paths
pub mod OnEdges
