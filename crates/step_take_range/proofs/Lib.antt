pub mod Ways
pub mod Sounds
