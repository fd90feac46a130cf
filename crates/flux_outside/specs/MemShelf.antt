-- What a shelf in memory is seen as.
use Rattle.std.specs.Prelude.{ℕ, ◌+◌, List, [], ◌∷◌, Option, None, Some, if◌then◌else◌}
use Rattle.std.specs.Str.{bytes_eq}
use Rattle.flux_outside.specs.Reads.{NamedRead}

-- Each name with its bytes, the number of the next read, the numbers of the reads that fail, the
-- reads that were made, and the count of faults.
pub record Rack : Type 0 where
  pub entries : List (List ℕ × List ℕ)
  pub call : ℕ
  pub failing : List ℕ
  pub reads : List NamedRead
  pub faults : ℕ

-- The bytes of the first entry with this name.
abbrev pub bytes_of : List (List ℕ × List ℕ) → List ℕ → Option (List ℕ)
bytes_of [] name = None
bytes_of (entry ∷ entries) name = if bytes_eq entry.0 name then Some entry.1 else bytes_of entries name

-- The index of the first entry with this name, where the entries are numbered from a start on.
abbrev pub place_from : ℕ → List (List ℕ × List ℕ) → List ℕ → Option ℕ
place_from start [] name = None
place_from start (entry ∷ entries) name = if bytes_eq entry.0 name then Some start else place_from (start + 1) entries name
