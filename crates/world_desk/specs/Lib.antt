pub mod Advances
pub mod Orders
pub mod Worlds
