pub mod Doors
pub mod Yards
