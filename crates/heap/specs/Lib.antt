pub mod Order
pub mod Queue
pub mod Model
