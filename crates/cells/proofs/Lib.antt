pub mod Choices
pub mod Packs
pub mod Shifts
pub mod Firsts
pub mod Rests
pub mod Ascending
pub mod Settled
