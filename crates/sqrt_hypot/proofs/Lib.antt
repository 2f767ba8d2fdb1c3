pub mod Cases
pub mod Scaling
pub mod Sum
pub mod Near
pub mod HypotCases
pub mod Halves
