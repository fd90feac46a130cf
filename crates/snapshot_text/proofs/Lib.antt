pub mod LineLemmas
pub mod OrderLemmas
pub mod VertexLemmas
pub mod RowLemmas
pub mod SourceLemmas
