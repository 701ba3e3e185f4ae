pub mod Bodies
pub mod Commands
pub mod Copies
pub mod Runs
