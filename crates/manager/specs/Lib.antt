pub mod Promises
pub mod Handing
pub mod Entry
pub mod Behind
