pub mod Copies
pub mod Refusals
