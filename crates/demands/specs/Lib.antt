pub mod Walks
pub mod Waits
pub mod Records
pub mod Refusals
pub mod Octals
pub mod Emptied
pub mod Filled
pub mod Edges
