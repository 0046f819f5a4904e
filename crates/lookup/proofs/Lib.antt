pub mod Searches
pub mod FullWalks
pub mod Lookups
pub mod Promises
