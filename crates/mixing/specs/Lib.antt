pub mod Sums
pub mod Moves
pub mod Mixing
