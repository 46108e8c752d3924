pub mod Steps
pub mod First
pub mod Waits
