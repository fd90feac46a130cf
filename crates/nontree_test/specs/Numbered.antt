-- The numbers that a store has for the labels of a pattern's edges.
use Rattle.std.specs.Prelude.{◌<◌, ◌≤◌, ℕ, List, Option, None, length, slice_index_or}
use Rattle.flux_model.specs.Graph.{Graph}
use Rattle.flux_model.specs.Pattern.{PatternGraph}
use Rattle.flux_model.specs.Tree.{edge_at}
use Rattle.graph_traits.specs.Numbers.{IsNumberIn}

-- each edge below the count has its number
abbrev pub AreNumbered : (ℕ → Option (List ℕ)) → Graph → PatternGraph → ℕ → List (Option ℕ) → Type 0
AreNumbered texts g q count numbers = (k : ℕ) → k < count → IsNumberIn texts g (edge_at q k).label (slice_index_or numbers k None)

-- each edge has its number
pub record AreNumbersOf (texts : ℕ → Option (List ℕ)) (g : Graph) (q : PatternGraph) (numbers : List (Option ℕ)) : Type 0 where
  pub sized : length q.edges ≤ length numbers
  pub each : AreNumbered texts g q (length q.edges) numbers
