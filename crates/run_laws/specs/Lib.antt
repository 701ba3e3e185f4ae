pub mod Keys
pub mod Names
pub mod Runs
pub mod Walks
