pub mod QueryJudging
