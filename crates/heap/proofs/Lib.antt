pub mod OrderLaws
pub mod Sifting
pub mod HeapOrder
pub mod Turns
pub mod SameAnswers
pub mod AnyQueue
pub mod PushAnswers
