pub mod Connections
pub mod Finishes
pub mod Orders
