pub mod EndLemmas
pub mod FollowLemmas
mod TransferLemmas
