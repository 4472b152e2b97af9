pub mod Searching
pub mod Following
pub mod Checks
pub mod Compatible
