pub mod Choosing
pub mod Pulling
pub mod Splitting
pub mod CutRegion
pub mod Without
