pub mod Promises
pub mod Leaving
pub mod Refusing
