pub mod MadeLemmas
pub mod MeetLemmas
pub mod RoundLemmas
pub mod WorkLemmas
