pub mod Ends
pub mod Comments
