pub mod SessionLemmas
pub mod CheckpointLemmas
