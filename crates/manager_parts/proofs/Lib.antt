pub mod Sizes
pub mod Entry
pub mod Drops
pub mod Combined
pub mod NoBytes
