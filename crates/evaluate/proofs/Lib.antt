pub mod Write
pub mod Values
pub mod Steps
pub mod Falling
