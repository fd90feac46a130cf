pub mod DeltaLemmas
pub mod DemoLemmas
pub mod FileLemmas
pub mod ProgressLemmas
pub mod SummaryLemmas
pub mod TallyLemmas
