pub mod Lookups
pub mod FullWalks
