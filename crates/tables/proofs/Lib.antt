pub mod Bits
pub mod Packs
pub mod Apart
pub mod AToN
pub mod Beyond
pub mod Misreadings
