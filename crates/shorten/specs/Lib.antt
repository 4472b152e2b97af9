pub mod Strikes
pub mod Judge
pub mod Pass
