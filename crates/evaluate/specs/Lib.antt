pub mod Evaluate
pub mod Remaining
pub mod Write
