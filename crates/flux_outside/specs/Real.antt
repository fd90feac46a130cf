-- What the objects over std's readers and writers are seen as.
use Rattle.std.specs.Prelude.{ℕ, List, Option}
use Rattle.flux_outside.specs.Reads.{Read, NamedRead}

-- The bytes that the reader has left, where it tells them, the reads that were made, and the count of faults.
pub record Reading : Type 0 where
  pub left : Option (List ℕ)
  pub reads : List Read
  pub faults : ℕ

-- The bytes that the writer holds, where it tells them, the lengths of the pieces that were put, and the count of faults.
pub record Writing : Type 0 where
  pub taken : Option (List ℕ)
  pub puts : List ℕ
  pub faults : ℕ

-- The reads of files that were made, and the count of faults.
pub record Shelved : Type 0 where
  pub reads : List NamedRead
  pub faults : ℕ
