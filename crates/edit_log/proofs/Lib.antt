mod Replays
mod Commits
pub mod Readers
