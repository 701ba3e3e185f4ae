pub mod Forms
pub mod Laws
pub mod Pieces
pub mod Transfers
pub mod Vaults
