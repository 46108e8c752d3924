pub mod Hears
pub mod Rules
pub mod Calls
