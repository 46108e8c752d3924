pub mod Ways
pub mod Sizes
