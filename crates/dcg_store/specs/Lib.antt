pub mod Counters
pub mod Moves
pub mod SoundRows
pub mod Layers
pub mod Flat
