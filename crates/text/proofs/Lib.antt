pub mod Gathers
pub mod Labels
pub mod Lines
pub mod Runs
pub mod Scans
pub mod Writes
pub mod Results
