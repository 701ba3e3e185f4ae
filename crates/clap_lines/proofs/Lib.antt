pub mod AfterFolderLemmas
pub mod EnteredLemmas
pub mod FolderLemmas
pub mod KindLemmas
pub mod OrderLemmas
pub mod ParseLemmas
pub mod PlainLemmas
pub mod ValueLemmas
