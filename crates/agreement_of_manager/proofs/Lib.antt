pub mod Asides
pub mod Layered
pub mod Calls
pub mod Close
pub mod Short
pub mod Accepted
pub mod Sessions
