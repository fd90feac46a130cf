pub mod Files
pub mod Progress
pub mod Summary
pub mod Tally
