pub mod Cells
pub mod Files
pub mod Keys
pub mod Promise
pub mod Serving
pub mod Worlds
