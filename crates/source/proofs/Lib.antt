pub mod Runs
pub mod Blocks
pub mod Places
pub mod Marks
pub mod Cursor
pub mod Counts
pub mod Identifiers
