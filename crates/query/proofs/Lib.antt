pub mod Numbered
pub mod Cells
pub mod Arguments
pub mod Children
pub mod Verdicts
pub mod Lines
