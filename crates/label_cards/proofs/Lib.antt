pub mod CardLemmas
pub mod CountLemmas
pub mod GrownLemmas
pub mod PassLemmas
pub mod PlanLemmas
pub mod StepLemmas
