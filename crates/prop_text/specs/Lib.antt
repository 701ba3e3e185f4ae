pub mod Acls
pub mod Names
pub mod SizeValues
pub mod Sizes
pub mod Properties
pub mod Steps
