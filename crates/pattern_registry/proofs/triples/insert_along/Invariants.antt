use Rattle.std.proofs.Common.{◌≡◌, ◌+◌, ◌<◌, ◌≤◌, length, take}
use Rattle.std.specs.Prelude.{sum_by}
use Rattle.std.specs.List.{AllByRecursion, zip}
use Rattle.pattern_registry.specs.UpdateCosts.{both_costs}
use Rattle.flux_model.specs.Deltas.{AreReordered}
use Rattle.flux_model.specs.Graph.{without_triple}
use Rattle.flux_model.specs.declared.maps.Delta.{Delta}
use Rattle.pattern_registry.specs.MovedRows.{trees_of, AreMoved, deltas_of, gain}
use Rattle.pattern_registry.specs.Routes.{place_at}
use Rattle.pattern_registry.proofs.triples.insert_along.Given as goal

-- the patterns below the next place of the route are done
abbrev pub invariant-loop-i : goal.invariant-loop-i
invariant-loop-i g l = record {
  moved : AreMoved (without_triple (g.G.HoldGraph.graph l.graph) l.triple) (g.G.HoldGraph.graph l.graph) (place_at l.route l.i (length l.patterns)) l.patterns l.indexes.items;
  deltas : AreReordered (deltas_of (gain (without_triple (g.G.HoldGraph.graph l.graph) l.triple) (g.G.HoldGraph.graph l.graph)) 0 (take (place_at l.route l.i (length l.patterns)) l.patterns)) l.deltas;
  below : AllByRecursion (λ (d : Delta). d.pattern < place_at l.route l.i (length l.patterns)) l.deltas;
  trees : trees_of l.indexes.items ≡ trees_of l.fn.indexes.items;
  steps : l.steps ≤ l.fn.steps + sum_by (both_costs (without_triple (g.G.HoldGraph.graph l.graph) l.triple) (g.G.HoldGraph.graph l.graph) l.triple) (take (place_at l.route l.i (length l.patterns)) (zip l.patterns (trees_of l.fn.indexes.items)));
}
