pub mod Index
pub mod Buckets
