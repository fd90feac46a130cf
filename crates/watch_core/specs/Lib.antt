pub mod Codes
pub mod Repeated
pub mod Session
pub mod SessionStates
pub mod Taken
