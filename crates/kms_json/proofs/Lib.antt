mod Adding
mod Answered
mod AsciiLemmas
mod Base64Lemmas
mod Elements
mod ReplyLemmas
mod VersionLemmas
