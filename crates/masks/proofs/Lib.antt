pub mod Masks
pub mod Membership
pub mod Reading
pub mod Joining
pub mod Agreeing
