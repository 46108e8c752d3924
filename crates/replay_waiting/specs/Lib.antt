pub mod Places
pub mod Promises
