pub mod Counts
pub mod HandOvers
pub mod Promises
pub mod Taking
