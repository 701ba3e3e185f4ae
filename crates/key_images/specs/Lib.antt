pub mod Chunks
pub mod Rows
pub mod Places
pub mod Adding
pub mod Images
pub mod Sizes
pub mod Sources
pub mod Laws
