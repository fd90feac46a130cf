-- The words of the command line, as contracts see them.
use Rattle.std.specs.Prelude.{ℕ, List, map, String, string_bytes, ⊤}
use Rattle.std.specs.declared.alloc.Global.{Global}
use Rattle.flux_model.specs.Verdict.{Shape, Watch, Match, Save, Demo}
use Rattle.watch_cli.specs.declared.words.Shape.{Shape as LentShape}
use Rattle.watch_cli.specs.declared.words.Shape.TheVariants as lent

-- the bytes of each word
abbrev pub texts : List (String Global) → List (List ℕ)
texts words = map string_bytes words

-- what contracts see of a shape whose names are lent
abbrev pub seen_shape : LentShape → Shape
seen_shape (lent.Watch graph patterns) = Watch graph.now patterns.now
seen_shape (lent.Match graph patterns) = Match graph.now patterns.now
seen_shape (lent.Save graph) = Save graph.now
seen_shape (lent.Demo number) = Demo number

-- `demo` alone reads no file
abbrev pub ReadsFiles : Shape → Type 0
ReadsFiles (Watch graph patterns) = ⊤
ReadsFiles (Match graph patterns) = ⊤
ReadsFiles (Save graph) = ⊤
ReadsFiles (Demo number) = ⊥

-- `watch` alone reads the updates
abbrev pub ReadsUpdates : Shape → Type 0
ReadsUpdates (Watch graph patterns) = ⊤
ReadsUpdates (Match graph patterns) = ⊥
ReadsUpdates (Save graph) = ⊥
ReadsUpdates (Demo number) = ⊥
