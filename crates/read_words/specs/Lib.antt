pub mod Line
pub mod Values
