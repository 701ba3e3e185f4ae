pub mod Closes
pub mod Views
