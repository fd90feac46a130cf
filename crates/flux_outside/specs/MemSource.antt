-- What a source in memory is seen as.
use Rattle.std.specs.Prelude.{ℕ, ◌-◌, ◌^◌, max, List, unwrap_or, slice_get}
use Rattle.flux_outside.specs.Reads.{Read}

-- The bytes that are left, the number of the next read, the cuts, the numbers of the reads that
-- fail, the reads that were made, and the count of faults.
pub record Feed : Type 0 where
  pub left : List ℕ
  pub call : ℕ
  pub cuts : List ℕ
  pub failing : List ℕ
  pub reads : List Read
  pub faults : ℕ

-- The most bytes that the read with this number gives: at least one, and no cut past the list.
abbrev pub cut_at : List ℕ → ℕ → ℕ
cut_at cuts call = max 1 (unwrap_or (slice_get cuts call) (2 ^ 64 - 1))
