pub mod MemVaults
pub mod Opaque
pub mod Shelves
