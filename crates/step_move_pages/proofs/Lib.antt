pub mod Turns
pub mod Sounds
pub mod Walks
