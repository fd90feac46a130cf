-- What a sink in memory is seen as.
use Rattle.std.specs.Prelude.{ℕ, List}

-- The bytes that it took, how many it can take in all, the lengths of the pieces that were put, and
-- its count of faults.
pub record Kept : Type 0 where
  pub bytes : List ℕ
  pub room : ℕ
  pub puts : List ℕ
  pub faults : ℕ
