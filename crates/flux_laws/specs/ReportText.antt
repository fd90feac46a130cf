-- The text of a report, as the lines of its blocks and its end line.
use Rattle.std.specs.Prelude.{ℕ, ◌+◌, List, ◌∷◌, flat_map}
use Rattle.std.specs.Fmt.{decimal}
use Rattle.flux_model.specs.GraphText.{text_line}
use Rattle.flux_model.specs.Report.{end_line}

-- a line of a block: its sign, the number of the updates' line, and the words behind it
pub record BlockLine : Type 0 where
  pub sign : List ℕ
  pub number : ℕ
  pub words : List (List ℕ)

-- such a line with its number moved on by n
abbrev pub moved_line : ℕ → BlockLine → List ℕ
moved_line n line = text_line (line.sign ∷ decimal (n + line.number) ∷ line.words)

abbrev pub moved : ℕ → List BlockLine → List ℕ
moved n lines = flat_map (moved_line n) lines

-- how many lines there were, how many changed the graph, and how many were refused
pub record Counts : Type 0 where
  pub lines : ℕ
  pub accepted : ℕ
  pub refused : ℕ

abbrev pub counts_line : Counts → List ℕ
counts_line c = end_line c.lines c.accepted c.refused

abbrev pub sum : Counts → Counts → Counts
sum a b = record { lines = a.lines + b.lines; accepted = a.accepted + b.accepted; refused = a.refused + b.refused }
