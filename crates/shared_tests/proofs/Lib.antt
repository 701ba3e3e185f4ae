mod AskLemmas
mod BatchLemmas
