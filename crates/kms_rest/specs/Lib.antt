pub mod Operations
pub mod Calls
pub mod Requests
pub mod Responses
pub mod Places
pub mod Rows
pub mod Laws
