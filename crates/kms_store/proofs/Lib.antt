mod Commits
pub mod Currents
pub mod Layers
pub mod MaterialReads
mod Olders
pub mod Replays
mod RowLemmas
mod Starts
mod Stepping
mod Streams
mod Views
