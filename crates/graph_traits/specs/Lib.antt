pub mod Rows
pub mod Numbers
pub mod WithinLimits
pub mod Changes
