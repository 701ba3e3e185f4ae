pub mod FillLemmas
pub mod ReplyLemmas
pub mod RunLemmas
