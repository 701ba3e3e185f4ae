pub mod Replay
pub mod Log
pub mod Reader
