pub mod Points
pub mod Numbering
pub mod Equal
pub mod Accepting
pub mod Counting
pub mod Returned
