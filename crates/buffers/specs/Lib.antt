pub mod Slots
pub mod Lack
pub mod Zero
pub mod Lent
