mod EndLemmas
mod PropsLemmas
pub mod SplitLemmas
pub mod UsageLemmas
