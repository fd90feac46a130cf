-- A line of a graph file, and what it makes of a graph under its limits.
use Rattle.std.proofs.Common.{◌≡◌, ℕ, Ok, Err, sym, ap, ◌∙◌}
use Rattle.flux_model.specs.Lines.{InputLine}
use Rattle.flux_model.specs.FileReading.{result_and_then, refused_at}
use Rattle.flux_model.specs.Graph.{LimitedGraph}
use Rattle.flux_model.specs.GraphFile.{graph_after_line}
use Rattle.flux_model.specs.Reading.{graph_reading}
use Rattle.flux_model.specs.declared.code.Code.{Code}
use Rattle.flux_model.specs.declared.limits.Limits.{Limits}
use Rattle.file_reading.specs.AfterLine.{after_graph_line}

-- ---- the graph takes the line, and the limits stay

same_kept : (s t : LimitedGraph) → t.limits ≡ s.limits → record s { graph = t.graph } ≡ t
same_kept s t e = ap (λ (l : Limits). record t { limits = l }) (sym e)

-- the line is taken
pub store-takes : (k : ℕ) (s t : LimitedGraph) (line : InputLine) → t.limits ≡ s.limits
    → graph_after_line s.limits k s.graph (graph_reading line) ≡ Ok t.graph → after_graph_line k s line ≡ Ok t
store-takes k s t line limits e = ap (result_and_then (λ g. Ok (record s { graph = g }))) e ∙ ap (λ (kept : LimitedGraph). Ok kept) (same_kept s t limits)

-- the line is refused
pub store-refuses : (k : ℕ) (s : LimitedGraph) (line : InputLine) (c : Code)
    → graph_after_line s.limits k s.graph (graph_reading line) ≡ refused_at k c → after_graph_line k s line ≡ Err (record { line = k; code = c })
store-refuses k s line c e = ap (result_and_then (λ g. Ok (record s { graph = g }))) e
