pub mod Layout
pub mod Fill
pub mod Read
pub mod Fact
