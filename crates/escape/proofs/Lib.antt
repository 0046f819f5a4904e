pub mod Digits
pub mod Escapes
