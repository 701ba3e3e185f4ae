pub mod Disk
pub mod Faults
pub mod Names
pub mod Reading
pub mod Writing
