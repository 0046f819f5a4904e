pub mod Tests
pub mod Words
pub mod Laid
pub mod Demand
pub mod Table
pub mod Refusals
