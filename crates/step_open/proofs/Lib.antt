pub mod Ways
pub mod Opening
