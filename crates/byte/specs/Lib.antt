pub mod Words
pub mod Laid
pub mod Bytes
pub mod Classes
pub mod Code
pub mod Demand
pub mod Refusals
