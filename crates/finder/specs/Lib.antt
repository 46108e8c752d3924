pub mod Plain
pub mod Promises
pub mod Manages
