pub mod Turns
pub mod Carried
pub mod Counted
pub mod Unmaking
pub mod Making
