pub mod Records
pub mod Code
