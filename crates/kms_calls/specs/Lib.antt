pub mod Acl
pub mod Refusals
pub mod Shown
