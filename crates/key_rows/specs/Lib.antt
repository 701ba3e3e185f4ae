pub mod Table
pub mod Sound
pub mod Names
pub mod Records
pub mod Reading
pub mod Image
pub mod ImageExamples
pub mod Laws
