pub mod Places
pub mod Tests
pub mod Order
pub mod Walks
pub mod Cells
pub mod Scan
pub mod InOrder
pub mod Front
