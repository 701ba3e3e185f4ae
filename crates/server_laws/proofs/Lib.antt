pub mod EndedLemmas
pub mod ServerFileLemmas
