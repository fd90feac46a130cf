-- A pattern file that is being read.
use Rattle.std.specs.Prelude.{Bool, ◌≤◌, List, [], ◌∷◌, ◌++◌, length, Option, Some, None, IsTrue}
use Rattle.std.specs.List.{AllByRecursion}
use Rattle.flux_model.specs.Text.{IsText}
use Rattle.flux_model.specs.Labels.{IsLabelSet}
use Rattle.flux_model.specs.Limits.{standard}
use Rattle.flux_model.specs.Ordered.{are_distinct_by}
use Rattle.flux_model.specs.Pattern.{PatternGraph, vertex_count, same_edge, HasEnds}
use Rattle.flux_model.specs.PatternFile.{OpenPattern, Draft}
use Rattle.flux_model.specs.declared.limits.Limits.{Limits}
use Rattle.flux_model.specs.declared.pattern.PatternEdge.{PatternEdge}

-- the limits, the patterns so far, and whether the reading has ended early
pub record PatternReading : Type 0 where
  pub limits : Limits
  pub draft : Draft
  pub spent : Bool

-- what an open pattern keeps: all that a pattern does, but for a vertex and being connected
pub record IsOpen (q : PatternGraph) : Type 0 where
  pub name : IsText q.name
  pub labels : AllByRecursion IsLabelSet q.labels
  pub texts : AllByRecursion (λ (e : PatternEdge). IsText e.label) q.edges
  pub few_vertices : vertex_count q ≤ standard.pattern_vertices
  pub few_edges : length q.edges ≤ standard.pattern_edges
  pub ends : AllByRecursion (HasEnds (vertex_count q)) q.edges
  pub distinct : IsTrue (are_distinct_by same_edge q.edges)

-- the complete patterns, then the open one as it stands
abbrev pub all_patterns : List PatternGraph → Option OpenPattern → List PatternGraph
all_patterns complete None = complete
all_patterns complete (Some o) = complete ++ o.pattern ∷ []
