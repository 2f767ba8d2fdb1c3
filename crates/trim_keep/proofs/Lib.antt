pub mod Touching
pub mod Seating
pub mod Loop
