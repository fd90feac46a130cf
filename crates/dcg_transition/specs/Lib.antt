pub mod Filled
pub mod Levels
pub mod Roots
pub mod Tallies
