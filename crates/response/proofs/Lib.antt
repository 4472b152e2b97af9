pub mod Passing
pub mod Ready
pub mod Telling
pub mod Indexed
