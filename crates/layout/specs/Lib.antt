pub mod Sessions
pub mod Answers
pub mod Lent
