pub mod Writes
pub mod Walks
pub mod Places
pub mod Walking
pub mod Passed
pub mod Held
pub mod Values
pub mod Results
