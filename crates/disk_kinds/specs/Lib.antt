pub mod Fakes
pub mod Opaque
pub mod Past
pub mod Plain
