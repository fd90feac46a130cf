pub mod Checkpoint
pub mod OneFile
