pub mod LineByLine
pub mod StartAndEnd
pub mod Chunks
