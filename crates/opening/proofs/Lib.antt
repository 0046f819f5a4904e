pub mod Looks
pub mod Openings
