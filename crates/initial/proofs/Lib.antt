pub mod Tags
pub mod Initials
