pub mod FrontierState
pub mod Steps
pub mod Whole
