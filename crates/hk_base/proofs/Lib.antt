pub mod Fronts
pub mod Pieces
pub mod Versions
pub mod Runs
