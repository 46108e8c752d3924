pub mod Answers
pub mod Ran
pub mod Lent
pub mod Endings
pub mod Holds
pub mod Pools
