pub mod World
pub mod ByIndex
pub mod Told
pub mod Fact
