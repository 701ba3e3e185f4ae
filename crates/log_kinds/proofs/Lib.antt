pub mod Replays
pub mod Sound
pub mod Held
