mod SeedLemmas
pub mod ServeLemmas
