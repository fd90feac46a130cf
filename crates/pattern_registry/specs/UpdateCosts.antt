-- What the parts of an update may cost.
use Rattle.std.specs.Prelude.{ℕ, ◌+◌, ◌*◌, List, filter, sum_by}
use Rattle.std.specs.Str.{bytes_eq}
use Rattle.dcg_updates.specs.EdgesLabelled.{edges_labelled}
use Rattle.flux_model.specs.Costs.{move_cost, look_cost}
use Rattle.flux_model.specs.Graph.{Graph}
use Rattle.flux_model.specs.Pattern.{PatternGraph}
use Rattle.flux_model.specs.Tree.{QueryTree}
use Rattle.flux_model.specs.declared.graph.Triple.{Triple}
use Rattle.flux_model.specs.declared.pattern.PatternEdge.{PatternEdge}

-- the searches from a triple for a pattern with its tree, from those of the edges that have its label
abbrev pub looks_from : PatternGraph → QueryTree → Graph → Triple → List PatternEdge → ℕ
looks_from q t g triple edges = sum_by (λ e. look_cost q t g e triple) (filter (λ (e : PatternEdge). bytes_eq e.label triple.label) edges)

abbrev pub looks_cost : Graph → Triple → PatternGraph × QueryTree → ℕ
looks_cost g triple p = looks_from p.0 p.1 g triple p.0.edges

-- the move of its rows
abbrev pub rows_cost : Graph → Graph → Triple → PatternGraph × QueryTree → ℕ
rows_cost small large triple p = move_cost p.0 p.1 small large triple + 2 * edges_labelled p.0 triple.label

abbrev pub both_costs : Graph → Graph → Triple → PatternGraph × QueryTree → ℕ
both_costs small large triple p = rows_cost small large triple p + looks_cost large triple p
