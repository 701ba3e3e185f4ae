pub mod CloseLemmas
pub mod EndLemmas
pub mod GoingLemmas
pub mod ServeLemmas
