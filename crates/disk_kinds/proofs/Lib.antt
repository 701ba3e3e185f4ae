pub mod OpaqueLemmas
mod Plains
mod Puts
mod Rests
mod Seeds
mod Supplies
