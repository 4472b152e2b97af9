pub mod Fitting
pub mod Entering
pub mod Judging
pub mod Opening
pub mod SchemaJudging
