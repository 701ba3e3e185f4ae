mod AskLemmas
mod CallLemmas
mod FieldLemmas
mod ListLemmas
mod NameLemmas
mod OnceLemmas
mod WordLemmas
