-- The edges of a pattern with a label.
use Rattle.std.specs.Prelude.{ℕ, List, length, filter}
use Rattle.std.specs.Str.{bytes_eq}
use Rattle.flux_model.specs.Pattern.{PatternGraph}
use Rattle.flux_model.specs.declared.pattern.PatternEdge.{PatternEdge}

-- how many there are
abbrev pub edges_labelled : PatternGraph → List ℕ → ℕ
edges_labelled q label = length (filter (λ (e : PatternEdge). bytes_eq e.label label) q.edges)
