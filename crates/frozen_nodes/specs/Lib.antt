pub mod Copies
pub mod Forest
pub mod Kept
pub mod Moves
pub mod Packed
