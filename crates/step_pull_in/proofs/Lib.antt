pub mod Grows
pub mod Ways
