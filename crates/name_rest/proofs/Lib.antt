pub mod TableLemmas
pub mod RouteLemmas
pub mod AnswerLemmas
mod BodyLemmas
