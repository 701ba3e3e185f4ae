pub mod Entries
pub mod Fills
pub mod Steps
pub mod Tickets
pub mod Views
