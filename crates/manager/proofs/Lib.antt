pub mod Once
pub mod Refusals
pub mod OwnEntry
pub mod Entering
pub mod Bounds
pub mod Served
pub mod Frees
pub mod Closes
