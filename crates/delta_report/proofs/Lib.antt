pub mod MapWordsLemmas
pub mod BlockLemmas
pub mod AnswersLemmas
pub mod SortedLemmas
pub mod EmbeddingsLemmas
pub mod CallerLemmas
pub mod ListingLemmas
