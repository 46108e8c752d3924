pub mod Keeping
pub mod Sofar
