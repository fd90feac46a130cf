pub mod NumberLemmas
pub mod LeastLemmas
pub mod HangLemmas
pub mod SpanLemmas
pub mod GrowthLemmas
pub mod CallerLemmas
pub mod KeptLemmas
pub mod ChooseLemmas
