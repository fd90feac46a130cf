-- What a call that reads a file asked of its shelf, by how the call ended.
use Rattle.std.specs.Prelude.{ℕ, List, take, map, Option, Result, Ok, Err, IsOk, ⊤, IfSome}
use Rattle.flux_outside.specs.Told.{Files}
use Rattle.flux_model.specs.Graph.{Graph}
use Rattle.flux_model.specs.GraphFile.{read_graph}
use Rattle.flux_model.specs.Lines.{whole}
use Rattle.flux_model.specs.PatternFile.{Draft, read_patterns}
use Rattle.flux_model.specs.Reading.{graph_reading, pattern_reading}
use Rattle.flux_model.specs.declared.code.Bad.{Bad}
use Rattle.flux_model.specs.declared.limits.Limits.{Limits}
use Rattle.file_reading.specs.declared.stop.Stop.{Stop}
use Rattle.file_reading.specs.declared.stop.Stop.TheVariants as stop

-- ---- how a call ended

abbrev pub WentOn : {T E : Type 0} → Result T E → Type 0
WentOn (Ok x) = ⊤
WentOn (Err e) = ⊥

abbrev pub IsReadStop : Stop → Type 0
IsReadStop stop.Memory = ⊥
IsReadStop stop.Read = ⊤
IsReadStop stop.NoFile = ⊥
IsReadStop stop.TooMuch = ⊥
IsReadStop (stop.Bad bad) = ⊥

abbrev pub StopsAtFault : {T : Type 0} → Result T Stop → Type 0
StopsAtFault (Ok x) = ⊥
StopsAtFault (Err why) = IsReadStop why

-- ---- the lines that were judged

-- none of the whole lines among the first n bytes of the file is refused, where the file is told
abbrev pub NoLineRefused : {S : Type 0} → Option Files → List ℕ → (List ℕ → Result S Bad) → ℕ → Type 0
NoLineRefused files name front n = IfSome files (λ m. IfSome (m name) (λ b. IsOk (front (take n b))))

-- what the whole lines among these bytes of a graph file, or of a pattern file, come to
abbrev pub graph_front : Limits → List ℕ → Result Graph Bad
graph_front limits b = read_graph limits (map graph_reading (whole limits.line_bytes b))

abbrev pub pattern_front : Limits → List ℕ → Result Draft Bad
pattern_front limits b = read_patterns limits (map pattern_reading (whole limits.line_bytes b))
