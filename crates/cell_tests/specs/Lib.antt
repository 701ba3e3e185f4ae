pub mod Issuing
pub mod Registering
