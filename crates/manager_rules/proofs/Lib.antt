pub mod Own
pub mod Keeps
pub mod Figures
pub mod WithoutSmall
pub mod Unasked
pub mod Runs
pub mod Reset
