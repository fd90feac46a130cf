pub mod IdLemmas
pub mod NonTreeLemmas
pub mod CallerLemmas
pub mod SentLemmas
