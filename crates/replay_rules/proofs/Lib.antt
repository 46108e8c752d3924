pub mod Passed
pub mod Answered
