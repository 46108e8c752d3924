pub mod StoredCell
pub mod Replaced
pub mod Cell
pub mod InsertAtPlace
pub mod JoinedRange
pub mod FullTable
pub mod CutAtPlace
