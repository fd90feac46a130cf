-- What was put of a text, and what waits in the report.
use Rattle.std.specs.Prelude.{◌≡◌, ℕ, List, ◌++◌, Option}
use Rattle.std.specs.Io.KnownBytes.{Appends}

-- of what waited and then the text, a front part was put, and the rest waits
pub record Wrote (put0 put1 : Option (List ℕ)) (waited waits text : List ℕ) : Type 0 where
  pub part : List ℕ
  pub put : Appends put0 put1 part
  pub whole : part ++ waits ≡ waited ++ text
