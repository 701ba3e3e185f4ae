pub mod Laws
pub mod Listings
pub mod Statuses
pub mod Zones
