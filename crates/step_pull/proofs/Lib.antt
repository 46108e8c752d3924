pub mod Ways
pub mod Turns
