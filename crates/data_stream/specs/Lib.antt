pub mod Bodies
pub mod Commands
pub mod Ends
pub mod Files
pub mod Laws
pub mod Runs
pub mod Statuses
