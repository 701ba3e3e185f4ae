pub mod ConnectionLemmas
pub mod LawLemmas
pub mod PageLemmas
pub mod RequestLemmas
pub mod ResponseLemmas
pub mod ViewLemmas
