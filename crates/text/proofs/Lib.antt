pub mod Tools
pub mod Bytes
pub mod Numbers
pub mod Lines
pub mod Fields
pub mod Reading
pub mod Rows
