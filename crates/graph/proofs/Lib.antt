pub mod Paired
pub mod Copying
pub mod Turning
pub mod Judging
