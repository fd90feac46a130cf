pub mod FormLemmas
pub mod LabelLemmas
pub mod WordsLemmas
