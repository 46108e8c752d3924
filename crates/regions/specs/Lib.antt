pub mod Merging
pub mod Choosing
pub mod Pulling
pub mod Cutting
