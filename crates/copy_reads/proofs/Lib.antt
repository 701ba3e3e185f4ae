mod CauseLemmas
pub mod FaultLemmas
pub mod FindLemmas
pub mod ReadLemmas
pub mod RunLemmas
pub mod StoreLemmas
