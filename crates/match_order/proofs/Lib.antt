pub mod FrontierLemmas
pub mod PlaceLemmas
pub mod SpanLemmas
pub mod WholeLemmas
pub mod CallerLemmas
pub mod LinkLemmas
