pub mod Masks
pub mod Join
