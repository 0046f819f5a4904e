pub mod Bounds
pub mod Gates
pub mod Calls
pub mod Kept
pub mod Longer
pub mod Refusals
