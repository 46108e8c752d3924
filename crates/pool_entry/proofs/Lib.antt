pub mod Reading
pub mod Entering
