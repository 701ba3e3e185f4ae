pub mod PathLemmas
mod ReadPathLemmas
