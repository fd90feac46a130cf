pub mod Members
pub mod Given
pub mod SearchCosts
pub mod Aim
pub mod AimedMembers
pub mod LookCost
pub mod Ways
pub mod CandidatesLeft
