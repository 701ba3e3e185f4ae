pub mod Adding
pub mod Files
pub mod Retiring
pub mod Steps
pub mod Walks
