pub mod Events
pub mod Transcript
