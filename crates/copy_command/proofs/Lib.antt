mod OrderLemmas
mod ReasonLemmas
mod StatusLemmas
