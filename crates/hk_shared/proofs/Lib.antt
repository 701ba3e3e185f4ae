pub mod CloseLemmas
pub mod TurnLemmas
