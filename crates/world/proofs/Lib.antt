pub mod Targets
pub mod Asked
pub mod Reading
pub mod ByIndex
