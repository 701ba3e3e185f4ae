pub mod Before
pub mod Put
pub mod Places
pub mod Births
pub mod RingLemmas
pub mod Lowest
pub mod Changes
