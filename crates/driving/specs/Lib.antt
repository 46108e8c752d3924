pub mod Ran
pub mod Endings
pub mod Promises
pub mod Pools
