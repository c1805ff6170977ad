pub mod Ring
pub mod Order
pub mod Tests
