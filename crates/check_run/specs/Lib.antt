pub mod Checks
pub mod Looks
pub mod Rows
pub mod Summary
