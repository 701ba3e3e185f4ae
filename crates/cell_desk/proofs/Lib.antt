pub mod AskLemmas
pub mod FinishLemmas
pub mod PairLemmas
pub mod ServeLemmas
pub mod WantLemmas
