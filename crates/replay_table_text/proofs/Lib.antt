pub mod Walks
pub mod Examples
