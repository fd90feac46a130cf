-- What a search may cost that has no dead end.
use Rattle.std.specs.Prelude.{◌≡◌, ℕ, ◌+◌, ◌*◌, List, [], length, drop, sum_by, Option, if◌then◌else◌}
use Rattle.flux_model.specs.Costs.{row_cost}
use Rattle.flux_model.specs.Graph.{Graph}
use Rattle.flux_model.specs.Order.{SearchOrder}
use Rattle.flux_model.specs.Pattern.{PatternGraph}
use Rattle.flux_model.specs.States.{joined, is_explicit}
use Rattle.flux_model.specs.Tree.{QueryTree, non_tree}
use Rattle.flux_model.specs.declared.pattern.Mode.TheVariants.{Hom}
use Rattle.match_order.specs.Whole.{vertices}
use Rattle.tree_search.specs.Members.{members_from}

-- neither the mode nor an edge that the tree leaves out refuses a candidate
pub record MeetsNoDeadEnd (q : PatternGraph) (t : QueryTree) : Type 0 where
  pub free : q.mode ≡ Hom
  pub joined : non_tree t ≡ []

-- of one candidate: the read of its state, and where the pair is explicit the tests of the edges
abbrev pub test_cost : PatternGraph → QueryTree → Graph → ℕ → ℕ → ℕ
test_cost q t g w x = if is_explicit (joined q t g) w x then 1 + length q.edges else 1

-- the rows that lead to an embedding from place k on
abbrev pub cost_from : PatternGraph → QueryTree → Graph → SearchOrder → ℕ → List ℕ → ℕ
cost_from q t g o k m = (length q.edges + 4) * sum_by (row_cost t g m) (drop k (vertices o))

-- those that lead to the embeddings that have the given ids
abbrev pub members_cost : PatternGraph → QueryTree → Graph → SearchOrder → ℕ → List (Option ℕ) → ℕ
members_cost q t g o k p = sum_by (cost_from q t g o k) (members_from q g p)
