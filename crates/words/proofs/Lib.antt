pub mod Log
pub mod Answers
