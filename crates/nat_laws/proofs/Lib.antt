pub mod Ring
pub mod Power
pub mod Compare
pub mod Tests
pub mod Lists
