pub mod Handing
pub mod Rooms
pub mod Ways
