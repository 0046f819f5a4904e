pub mod Looks
pub mod Frames
pub mod Passes
pub mod Calls
pub mod Runs
