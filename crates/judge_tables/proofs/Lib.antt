pub mod Newest
pub mod Pages
