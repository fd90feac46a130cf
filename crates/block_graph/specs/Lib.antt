pub mod Blocks
pub mod Chains
pub mod Rows
pub mod Places
pub mod Props
pub mod Walks
pub mod Meaning
