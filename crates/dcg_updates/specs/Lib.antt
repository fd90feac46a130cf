pub mod Changed
pub mod Sights
pub mod Joints
pub mod Plans
pub mod WalkPlans
pub mod Views
pub mod EdgesLabelled
pub mod VertexApart
