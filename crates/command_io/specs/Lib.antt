pub mod Ends
pub mod Environment
pub mod Lines
pub mod Properties
