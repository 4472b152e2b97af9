pub mod Labels
pub mod Steps
pub mod Accepts
pub mod Sound
pub mod Checked
pub mod Own
