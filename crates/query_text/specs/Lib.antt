pub mod QueryVerdict
