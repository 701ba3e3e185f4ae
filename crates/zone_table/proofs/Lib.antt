pub mod Kept
pub mod Listed
pub mod Marks
pub mod Moves
pub mod Sorts
pub mod StatusLaws
pub mod StatusLists
pub mod Tables
