pub mod Verdict
pub mod Lists
pub mod Agreement
