use Rattle.std.proofs.Common.{◌≡◌, ◌+◌, ◌≤◌, length, take}
use Rattle.std.specs.Prelude.{sum_by}
use Rattle.std.specs.List.{zip}
use Rattle.pattern_registry.specs.UpdateCosts.{rows_cost}
use Rattle.flux_model.specs.Graph.{with_triple}
use Rattle.pattern_registry.specs.MovedRows.{trees_of, AreMoved}
use Rattle.pattern_registry.specs.Routes.{place_at}
use Rattle.pattern_registry.proofs.triples.delete_along.Given as goal

-- the patterns below the next place of the route are done
abbrev pub invariant-loop-i : goal.invariant-loop-i
invariant-loop-i g l = record {
  moved : AreMoved (with_triple (g.G.HoldGraph.graph l.graph) l.triple) (g.G.HoldGraph.graph l.graph) (place_at l.route l.i (length l.patterns)) l.patterns l.indexes.items;
  trees : trees_of l.indexes.items ≡ trees_of l.fn.indexes.items;
  steps : l.steps ≤ l.fn.steps + sum_by (rows_cost (g.G.HoldGraph.graph l.graph) (with_triple (g.G.HoldGraph.graph l.graph) l.triple) l.triple) (take (place_at l.route l.i (length l.patterns)) (zip l.patterns (trees_of l.fn.indexes.items)));
}
