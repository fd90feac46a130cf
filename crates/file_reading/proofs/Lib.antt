pub mod JudgedLemmas
pub mod FileLemmas
pub mod GraphFileLemmas
pub mod InputLemmas
pub mod AskedLemmas
