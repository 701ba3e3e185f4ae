pub mod GotLemmas
