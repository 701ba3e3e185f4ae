pub mod Asked
pub mod Entries
pub mod Fronts
pub mod Served
pub mod Steps
pub mod Views
