mod CheckLemmas
mod LoadLemmas
mod OrderLemmas
mod ServerHeadlineLemmas
