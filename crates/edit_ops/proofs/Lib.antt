pub mod PathText
mod Counted
mod Parts
pub mod RecordLemmas
