pub mod Bounds
pub mod Gates
pub mod Calls
