mod FolderLemmas
mod LoadLemmas
mod NumberLemmas
pub mod OrderLemmas
mod SpellingLemmas
