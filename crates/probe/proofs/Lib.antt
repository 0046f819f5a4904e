pub mod Probes
pub mod Literals
