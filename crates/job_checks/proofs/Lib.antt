pub mod Altitude
pub mod Any
pub mod Edge
pub mod Sound
pub mod Tests
pub mod Decimal
pub mod Numbers
