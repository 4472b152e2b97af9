pub mod Entries
pub mod Faults
