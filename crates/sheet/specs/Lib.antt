pub mod Bodies
pub mod Sheets
pub mod Code
pub mod Manual
