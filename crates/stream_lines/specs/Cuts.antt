-- A stream that comes in any pieces, with its lines taken at any time.
use Rattle.std.specs.Prelude.{◌≡◌, ℕ, List, [], ◌∷◌, ◌++◌}
use Rattle.flux_model.specs.Lines.{InputLine, held, whole, rest, lines}
use Rattle.stream_lines.specs.Waiting.{Waiting}
use Rattle.stream_lines.specs.Follows.{Follows, rest_line}

-- a piece comes, or the first line is taken
pub data Event : Type 0 where
  came : List ℕ → Event
  taken : InputLine → Event

-- the pieces, joined
abbrev pub joined : List Event → List ℕ
joined [] = []
joined (came piece ∷ events) = piece ++ joined events
joined (taken line ∷ events) = joined events

-- the lines that are taken
abbrev pub taken_lines : List Event → List InputLine
taken_lines [] = []
taken_lines (came piece ∷ events) = taken_lines events
taken_lines (taken line ∷ events) = line ∷ taken_lines events

-- what a piece does
pub record Came (piece : List ℕ) (old new : Waiting) : Type 0 where
  pub line_bytes : new.line_bytes ≡ old.line_bytes
  pub lines : (b : List ℕ) → rest old.line_bytes b ≡ old.rest → Follows b piece old new

-- what taking the first line does
pub record Taken (line : InputLine) (old new : Waiting) : Type 0 where
  pub line_bytes : new.line_bytes ≡ old.line_bytes
  pub queue : old.queue ≡ line ∷ new.queue
  pub rest : new.rest ≡ old.rest

-- what one event does
abbrev pub Does : Event → Waiting → Waiting → Type 0
Does (came piece) old new = Came piece old new
Does (taken line) old new = Taken line old new

-- the events lead from one state to another
abbrev pub Leads : List Event → Waiting → Waiting → Type 0
Leads [] old new = new ≡ old
Leads (event ∷ events) old new = (next : Waiting) × Does event old next × Leads events next new

-- nothing has come
abbrev pub nothing_yet : ℕ → Waiting
nothing_yet n = record { line_bytes = n; queue = []; rest = held [] }

-- what has been taken and what waits are the lines of the pieces, joined
pub record HasLines (n : ℕ) (events : List Event) (now : Waiting) : Type 0 where
  pub whole : taken_lines events ++ now.queue ≡ whole n (joined events)
  pub rest : now.rest ≡ rest n (joined events)
  pub lines : taken_lines events ++ now.queue ++ rest_line n now.rest ≡ lines n (joined events)

-- it does not matter how a stream is cut into pieces
abbrev pub AnyCut : Type 0
AnyCut = (n : ℕ) (events : List Event) (now : Waiting) → Leads events (nothing_yet n) now → HasLines n events now
