pub mod Nexts
pub mod Calls
