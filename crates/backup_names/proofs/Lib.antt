mod AskedLemmas
mod FinishLemmas
mod LookLemmas
mod MakeLemmas
pub mod OrderLemmas
mod RefusalLemmas
