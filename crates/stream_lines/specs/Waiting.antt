-- What contracts see of the lines that wait.
use Rattle.std.specs.Prelude.{ℕ, List}
use Rattle.flux_model.specs.Lines.{InputLine}

-- the most bytes of a line, the whole lines that wait, and what has come of the next
pub record Waiting : Type 0 where
  pub line_bytes : ℕ
  pub queue : List InputLine
  pub rest : InputLine
