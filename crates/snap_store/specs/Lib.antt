pub mod Ordered
pub mod Snapshots
pub mod Stored
