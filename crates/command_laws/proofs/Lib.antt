pub mod EndLemmas
pub mod LogLemmas
pub mod PipeLemmas
pub mod ReplayLemmas
pub mod ServeLemmas
