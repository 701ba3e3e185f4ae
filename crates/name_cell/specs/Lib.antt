pub mod FaultLemmas
pub mod StepLemmas
pub mod WantLemmas
