pub mod Texts
pub mod World
