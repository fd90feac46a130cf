pub mod ReportLemmas
pub mod FollowLemmas
pub mod AnswersLemmas
pub mod TopLemmas
pub mod AskedByRunLemmas
pub mod CostLemmas
pub mod NumberLemmas
