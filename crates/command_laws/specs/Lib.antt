pub mod Complete
pub mod Good
pub mod Laws
