pub mod ListLemmas
pub mod OpenLemmas
pub mod NameLemmas
pub mod MarkLemmas
