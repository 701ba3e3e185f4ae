pub mod Bodies
pub mod Ends
pub mod Events
pub mod Opening
