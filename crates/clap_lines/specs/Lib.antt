pub mod Folders
pub mod Orders
pub mod Shown
pub mod Told
