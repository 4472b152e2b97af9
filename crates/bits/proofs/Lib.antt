pub mod Tests
pub mod Laws
