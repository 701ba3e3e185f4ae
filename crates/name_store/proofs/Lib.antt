pub mod CauseLemmas
pub mod Commits
pub mod FitsLemmas
pub mod IdLemmas
pub mod Layers
mod ReaderLemmas
pub mod Replays
pub mod RowLemmas
pub mod RunLemmas
pub mod SettleLemmas
pub mod Starts
pub mod StatusLemmas
pub mod UpdateLemmas
pub mod UsedLemmas
