pub mod Reasons
pub mod Forms
pub mod Tests
pub mod Seen
pub mod Texts
