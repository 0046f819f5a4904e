pub mod Sheets
pub mod Lookups
pub mod Ends
pub mod Octals
