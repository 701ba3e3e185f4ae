pub mod Operations
pub mod Rows
pub mod Orders
pub mod Requests
pub mod Responses
pub mod Laws
