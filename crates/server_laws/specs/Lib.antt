pub mod Ended
pub mod ServerFiles
