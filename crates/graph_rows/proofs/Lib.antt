pub mod CountLemmas
pub mod JointLemmas
pub mod SumLemmas
pub mod RestLemmas
pub mod RowSumLemmas
