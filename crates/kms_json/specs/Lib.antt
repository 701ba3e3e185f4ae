pub mod Base64
pub mod Members
pub mod Versions
pub mod Bodies
pub mod Laws
pub mod Replies
pub mod Writing
