pub mod Alike
pub mod Collects
pub mod Retires
pub mod Starts
pub mod Takes
pub mod Zoned
