mod Aheads
pub mod Bases
mod Bytes
pub mod Closing
mod Found
mod FoundLemmas
mod Goings
mod Head
pub mod Layers
pub mod Migrations
pub mod Moves
pub mod Movings
pub mod Openings
pub mod Keepings
mod Parts
pub mod Reading
mod Scans
pub mod Shutting
mod Steps
pub mod Torn
mod WalkLemmas
pub mod Turnings
pub mod Viewings
mod Windows
pub mod Writes
