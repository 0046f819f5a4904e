pub mod Cursor
pub mod Identifiers
pub mod Code
