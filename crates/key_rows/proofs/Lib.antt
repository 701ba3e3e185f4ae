pub mod Births
pub mod Rolls
pub mod TableLemmas
pub mod Orders
pub mod FieldLemmas
pub mod RecordLemmas
pub mod ImageLemmas
