pub mod MapWords
pub mod Block
pub mod Answers
pub mod Sorted
