pub mod Counting
pub mod GraphJudging
