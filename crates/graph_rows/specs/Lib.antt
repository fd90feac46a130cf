pub mod Directions
pub mod WholeRows
pub mod LabelRows
pub mod Branches
