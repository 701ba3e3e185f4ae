pub mod Shapes
pub mod Routes
pub mod Queries
pub mod Users
