pub mod Follows
pub mod Made
pub mod Turns
pub mod Seated
pub mod Decimal
