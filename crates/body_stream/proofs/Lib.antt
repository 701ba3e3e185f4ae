mod FormLemmas
mod LawLemmas
mod PutLemmas
mod ReadLemmas
