pub mod Counts
pub mod Pages
pub mod Responses
pub mod Texts
