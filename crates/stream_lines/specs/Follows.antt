-- What a further piece of the stream does to the lines that wait.
use Rattle.std.specs.Prelude.{◌≡◌, ℕ, List, [], ◌∷◌, ◌++◌}
use Rattle.flux_model.specs.Lines.{InputLine, held, long, whole, rest, last_line}
use Rattle.stream_lines.specs.Waiting.{Waiting}

-- After the bytes b came a piece: the queue grows by the whole lines that b and the piece have beyond those of b.
pub record Follows (b piece : List ℕ) (old new : Waiting) : Type 0 where
  pub more : List InputLine
  pub lines : whole old.line_bytes (b ++ piece) ≡ whole old.line_bytes b ++ more
  pub queue : new.queue ≡ old.queue ++ more
  pub rest : new.rest ≡ rest old.line_bytes (b ++ piece)

-- a rest as a line, where it is not empty
abbrev pub rest_line : ℕ → InputLine → List InputLine
rest_line n (held bs) = last_line n bs
rest_line n long = long ∷ []
