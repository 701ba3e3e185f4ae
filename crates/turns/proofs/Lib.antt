pub mod EntryLemmas
pub mod GotLemmas
