mod CutLemmas
mod KeyLemmas
mod LoopLemmas
pub mod SeenLemmas
mod PartLemmas
