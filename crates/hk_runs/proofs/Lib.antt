pub mod BeganLemmas
pub mod ChainLemmas
pub mod EndLemmas
mod FollowLemmas
pub mod HeadlineLemmas
pub mod HistoryLemmas
pub mod LastLemmas
pub mod LastingLemmas
pub mod LivedLemmas
pub mod PipeLemmas
pub mod SessionLemmas
pub mod VerdictLemmas
