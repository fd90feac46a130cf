pub mod EntriesLemmas
pub mod Places
pub mod ReadsLemmas
pub mod Walks
pub mod Written
