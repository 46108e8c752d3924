pub mod Ways
pub mod Refusing
