pub mod Told
pub mod Places
pub mod Calls
pub mod Finds
