pub mod Bytes
pub mod Told
pub mod Unread
