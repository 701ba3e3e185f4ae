mod FolderLemmas
mod OrderLemmas
mod SpellingLemmas
mod ValueLemmas
