pub mod Tests
pub mod Promises
pub mod Walks
