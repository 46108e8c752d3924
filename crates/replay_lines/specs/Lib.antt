pub mod Records
pub mod Traced
