pub mod FailureLemmas
pub mod OpeningLemmas
pub mod RunLemmas
