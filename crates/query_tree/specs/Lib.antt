pub mod Choice
pub mod Depth
pub mod Lists
