pub mod Turns
pub mod Calls
pub mod Code
