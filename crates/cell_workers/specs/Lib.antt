pub mod Batches
pub mod Retries
pub mod Rounds
pub mod Work
