pub mod Changes
pub mod Ends
pub mod Orders
pub mod Refusals
