pub mod Walks
pub mod Code
