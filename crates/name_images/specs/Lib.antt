pub mod Fields
pub mod Images
pub mod Laws
pub mod NextZones
pub mod Parts
pub mod Pieces
pub mod Walks
