pub mod Response
pub mod Check
