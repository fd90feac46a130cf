pub mod Limited
pub mod Extensions
