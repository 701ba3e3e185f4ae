mod NameLemmas
mod FirstLemmas
mod AddLemmas
mod KeyLemmas
mod StandingLemmas
