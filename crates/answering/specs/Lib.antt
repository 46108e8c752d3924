pub mod Answers
pub mod Leaves
pub mod Unchanged
pub mod Live
