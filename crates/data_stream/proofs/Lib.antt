pub mod CauseLemmas
pub mod CommandLemmas
pub mod EndLemmas
mod FaultLemmas
pub mod KeyLemmas
pub mod LastLemmas
mod LawLemmas
pub mod OpenLemmas
mod OrderLemmas
pub mod RunLemmas
pub mod StatusLemmas
mod StepLemmas
pub mod StoreLemmas
