pub mod Rows
pub mod Passing
pub mod Tallying
pub mod Passes
