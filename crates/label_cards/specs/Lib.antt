pub mod Counted
pub mod Plans
