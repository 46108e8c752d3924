pub mod Form
pub mod Bounds
pub mod Kinds
pub mod Reads
pub mod Lines
pub mod Machine
pub mod Chunks
pub mod Put
