pub mod Count
pub mod Search
pub mod Given
