pub mod Sessions
pub mod Answers
pub mod Again
pub mod Lent
pub mod Rewriting
