pub mod Firsts
pub mod Links
pub mod Chains
pub mod Laying
pub mod Areas
pub mod Declared
pub mod Buckets
pub mod Views
