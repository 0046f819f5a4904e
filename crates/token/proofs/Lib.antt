pub mod Copies
pub mod Files
pub mod RoundTrips
pub mod Tokens
