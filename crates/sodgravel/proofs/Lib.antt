pub mod Clearing
pub mod Rules
pub mod Demands
pub mod Own
