pub mod Faults
pub mod Rises
pub mod Letters
pub mod Lawful
pub mod Readable
pub mod Breaking
