-- The patterns of a run with what is kept of each, and when it is exact.
use Rattle.std.specs.Prelude.{◌≡◌, ℕ, Bool, false, List, length, map, slice_get, Some}
use Rattle.flux_model.specs.Graph.{Graph}
use Rattle.flux_model.specs.Pattern.{PatternGraph}
use Rattle.flux_model.specs.Tree.{QueryTree, tree, BelongsTo}
use Rattle.flux_model.specs.Exact.{StateRows, IsExact}

-- the patterns, the tree and the rows of each, in the same order, and whether rows may be wrong
pub record PatternStates : Type 0 where
  pub patterns : List PatternGraph
  pub trees : List QueryTree
  pub rows : List StateRows
  pub is_broken : Bool

-- each pattern has a tree of its own, and rows, which are whole where all is
pub record IsIndexed (s : PatternStates) : Type 0 where
  pub trees : length s.trees ≡ length s.patterns
  pub rows : length s.rows ≡ length s.patterns
  pub belongs : (k : ℕ) (q : PatternGraph) (t : QueryTree) → slice_get s.patterns k ≡ Some q → slice_get s.trees k ≡ Some t → BelongsTo q t
  pub whole : s.is_broken ≡ false → (k : ℕ) (d : StateRows) → slice_get s.rows k ≡ Some d → d.is_broken ≡ false

-- nothing is broken, and the rows of each pattern are exact over the graph, by its tree
pub record AreExact (s : PatternStates) (g : Graph) : Type 0 where
  pub whole : s.is_broken ≡ false
  pub each : (k : ℕ) (q : PatternGraph) (t : QueryTree) (d : StateRows)
      → slice_get s.patterns k ≡ Some q → slice_get s.trees k ≡ Some t → slice_get s.rows k ≡ Some d → IsExact q t g d

-- the tree of each pattern, as its cards over the graph choose it
abbrev pub trees_over : Graph → List PatternGraph → List QueryTree
trees_over g patterns = map (λ q. tree q g) patterns
