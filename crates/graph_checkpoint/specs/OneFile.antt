-- The files of a shelf, and one more.
use Rattle.std.specs.Prelude.{ℕ, List, [], Some, if◌then◌else◌}
use Rattle.std.specs.Str.{bytes_eq}
use Rattle.flux_outside.specs.Told.{Files}

-- under this name there is a file without bytes
abbrev pub with_empty : List ℕ → Files → Files
with_empty name files other = if bytes_eq other name then Some [] else files other
