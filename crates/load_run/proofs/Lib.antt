pub mod EndLemmas
pub mod OkLemmas
pub mod ReadyLemmas
pub mod StartLemmas
pub mod StepLemmas
pub mod TaskLemmas
