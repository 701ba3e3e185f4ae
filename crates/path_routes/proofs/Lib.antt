pub mod SoundLemmas
pub mod CompleteLemmas
pub mod SegmentLemmas
pub mod QueryLemmas
