pub mod BlockLemmas
pub mod GraphLineLemmas
