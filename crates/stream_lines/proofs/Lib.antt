pub mod PartsLemmas
pub mod EndLemmas
pub mod KeptLemmas
pub mod CallerLemmas
pub mod CutsLemmas
