-- How far the rows of the patterns have moved from one graph to another, and what the patterns gain or lose by it.
use Rattle.std.specs.Prelude.{◌≡◌, ℕ, suc, ◌<◌, ◌≤◌, List, [], ◌∷◌, length, map, slice_get, Some}
use Rattle.flux_model.specs.Change.{gained, lost}
use Rattle.flux_model.specs.Deltas.{with_delta}
use Rattle.flux_model.specs.Exact.{IsExact}
use Rattle.flux_model.specs.Graph.{Graph}
use Rattle.flux_model.specs.Pattern.{PatternGraph}
use Rattle.flux_model.specs.Tree.{QueryTree, BelongsTo}
use Rattle.flux_model.specs.declared.maps.Delta.{Delta}
use Rattle.pattern_registry.specs.declared.index.PatternIndex.{PatternIndex}

abbrev pub trees_of : List PatternIndex → List QueryTree
trees_of indexes = map (λ (i : PatternIndex). i.tree) indexes

-- the tree is the pattern's, and the rows are exact over the graph
pub record IsKept (g : Graph) (q : PatternGraph) (i : PatternIndex) : Type 0 where
  pub belongs : BelongsTo q i.tree
  pub exact : IsExact q i.tree g i.dcg

-- those of each pattern
pub record AreKept (g : Graph) (patterns : List PatternGraph) (indexes : List PatternIndex) : Type 0 where
  pub count : length indexes ≡ length patterns
  pub each : (k : ℕ) (q : PatternGraph) (i : PatternIndex) → slice_get patterns k ≡ Some q → slice_get indexes k ≡ Some i → IsKept g q i

-- those of the patterns below `next` over the new graph, and the others over the old one
pub record AreMoved (old new : Graph) (next : ℕ) (patterns : List PatternGraph) (indexes : List PatternIndex) : Type 0 where
  pub count : length indexes ≡ length patterns
  pub done : (k : ℕ) (q : PatternGraph) (i : PatternIndex) → k < next → slice_get patterns k ≡ Some q → slice_get indexes k ≡ Some i → IsKept new q i
  pub left : (k : ℕ) (q : PatternGraph) (i : PatternIndex) → next ≤ k → slice_get patterns k ≡ Some q → slice_get indexes k ≡ Some i → IsKept old q i

-- ---- deltas

-- a delta for each pattern, numbered from i, where it has a map
abbrev pub deltas_of : (ℕ → PatternGraph → Delta) → ℕ → List PatternGraph → List Delta
deltas_of made i [] = []
deltas_of made i (q ∷ qs) = with_delta (made i q) (deltas_of made (suc i) qs)

-- what a pattern gains where the graph becomes larger
abbrev pub gain : Graph → Graph → ℕ → PatternGraph → Delta
gain small large i q = record { pattern = i; gained = gained q small large; lost = [] }

-- and what it loses where the larger one becomes the smaller
abbrev pub loss : Graph → Graph → ℕ → PatternGraph → Delta
loss large small i q = record { pattern = i; gained = []; lost = lost q large small }
