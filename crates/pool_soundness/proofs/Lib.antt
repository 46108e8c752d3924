pub mod PageWalk
pub mod Fronts
pub mod Walks
pub mod SpacedRanges
pub mod TestsAreSound
pub mod Ceilings
pub mod RemainderMarks
pub mod Rising
