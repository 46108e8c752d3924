pub mod Ways
pub mod Sounds
pub mod Taking
pub mod Inserting
