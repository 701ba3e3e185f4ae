pub mod Files
pub mod Orders
pub mod Reasons
