pub mod Fields
pub mod Heads
pub mod Laws
pub mod Message
pub mod Parsing
pub mod Reading
pub mod Requests
pub mod Responses
