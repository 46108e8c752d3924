pub mod Lending
pub mod Promises
