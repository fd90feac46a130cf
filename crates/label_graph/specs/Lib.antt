pub mod Places
pub mod Sorted
pub mod Names
pub mod Table
pub mod Store
pub mod Known
pub mod SetNames
pub mod Meaning
