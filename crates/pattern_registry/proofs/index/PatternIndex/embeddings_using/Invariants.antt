use Rattle.std.proofs.Common.{◌+◌, ◌≤◌, take}
use Rattle.std.specs.Prelude.{IsPermutation, flat_map}
use Rattle.std.specs.List.{range_with_len}
use Rattle.flux_model.specs.Classes.{edge_class}
use Rattle.pattern_registry.specs.UpdateCosts.{looks_from}
use Rattle.pattern_registry.proofs.index.PatternIndex.embeddings_using.Given as goal

-- the classes of the edges so far, and what they may have cost
abbrev pub invariant-loop-i : goal.invariant-loop-i
invariant-loop-i g l = record {
  found : IsPermutation (flat_map (edge_class l.pattern (g.G.HoldGraph.graph l.graph) l.triple) (range_with_len 0 l.i)) l.maps;
  steps : l.steps ≤ l.fn.steps + looks_from l.pattern l.self.tree (g.G.HoldGraph.graph l.graph) l.triple (take l.i l.pattern.edges);
}
