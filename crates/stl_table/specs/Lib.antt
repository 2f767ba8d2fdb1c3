pub mod Keys
pub mod Table
