pub mod Drawn
pub mod Law
