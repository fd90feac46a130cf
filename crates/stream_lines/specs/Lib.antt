pub mod Waiting
pub mod Follows
pub mod Lent
pub mod Buffer
pub mod Cuts
