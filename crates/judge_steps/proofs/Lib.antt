pub mod Tested
pub mod Stepping
pub mod LineKinds
