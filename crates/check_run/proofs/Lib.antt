mod Examples
mod FoundLemmas
mod LookLemmas
mod RowLemmas
mod SnapshotLemmas
mod VersionLemmas
