pub mod Ends
pub mod Exchanges
pub mod Laws
pub mod Notes
pub mod Served
pub mod Transactions
pub mod Turns
