pub mod Due
pub mod Turning
pub mod Runs
