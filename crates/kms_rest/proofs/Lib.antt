mod PlaceLemmas
mod WrittenLemmas
mod TableLemmas
mod UniqueLemmas
mod RouteLemmas
mod QueryLemmas
mod AnswerLemmas
