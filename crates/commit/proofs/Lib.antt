pub mod Spans
pub mod Values
pub mod Records
pub mod Nexts
pub mod Putting
