pub mod CopyLemmas
pub mod RefusalLemmas
