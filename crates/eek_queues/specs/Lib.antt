pub mod Order
pub mod Queues
pub mod Kept
