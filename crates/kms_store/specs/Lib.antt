pub mod Keys
pub mod Kind
pub mod Replay
pub mod Store
pub mod Views
