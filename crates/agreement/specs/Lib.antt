pub mod Runs
pub mod Premises
pub mod Agrees
pub mod Judges
pub mod Replays
pub mod TrueAnswers
