pub mod Cutting
pub mod Points
pub mod Stretches
pub mod Claim
pub mod Buffers
