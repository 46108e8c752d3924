pub mod Turns
pub mod Sounds
pub mod Cleans
