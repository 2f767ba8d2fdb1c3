pub mod Residue
pub mod Decimal
pub mod Start
