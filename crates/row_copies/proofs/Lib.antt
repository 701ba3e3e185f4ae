mod AddLemmas
pub mod CauseLemmas
mod EndLemmas
mod NextLemmas
mod PathLemmas
mod PutLemmas
mod StepLemmas
mod WalkLemmas
