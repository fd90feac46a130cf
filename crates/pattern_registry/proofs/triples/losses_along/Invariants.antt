use Rattle.std.proofs.Common.{◌+◌, ◌<◌, ◌≤◌, length, take}
use Rattle.std.specs.Prelude.{sum_by}
use Rattle.std.specs.List.{AllByRecursion, zip}
use Rattle.pattern_registry.specs.UpdateCosts.{looks_cost}
use Rattle.flux_model.specs.Deltas.{AreReordered}
use Rattle.flux_model.specs.Graph.{without_triple}
use Rattle.flux_model.specs.declared.maps.Delta.{Delta}
use Rattle.pattern_registry.specs.MovedRows.{trees_of, deltas_of, loss}
use Rattle.pattern_registry.specs.Routes.{place_at}
use Rattle.pattern_registry.proofs.triples.losses_along.Given as goal

-- the patterns below the next place of the route are done
abbrev pub invariant-loop-i : goal.invariant-loop-i
invariant-loop-i g l = record {
  deltas : AreReordered (deltas_of (loss (g.G.HoldGraph.graph l.graph) (without_triple (g.G.HoldGraph.graph l.graph) l.triple)) 0 (take (place_at l.route l.i (length l.patterns)) l.patterns)) l.deltas;
  below : AllByRecursion (λ (d : Delta). d.pattern < place_at l.route l.i (length l.patterns)) l.deltas;
  steps : l.steps ≤ l.fn.steps + sum_by (looks_cost (g.G.HoldGraph.graph l.graph) l.triple) (take (place_at l.route l.i (length l.patterns)) (zip l.patterns (trees_of l.indexes.items)));
}
