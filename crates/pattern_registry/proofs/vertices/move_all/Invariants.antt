use Rattle.std.proofs.Common.{◌≡◌, ◌+◌, ◌*◌, ◌≤◌}
use Rattle.dcg_updates.specs.VertexApart.{IsVertexApart}
use Rattle.flux_model.specs.Graph.{Graph}
use Rattle.pattern_registry.specs.MovedRows.{trees_of, AreMoved}
use Rattle.pattern_registry.proofs.vertices.move_all.Given as goal

-- the patterns so far are done
abbrev pub invariant-loop-k : goal.invariant-loop-k
invariant-loop-k g l = record {
  moved : (old : Graph) × IsVertexApart l.id old (g.G.HoldGraph.graph l.graph) × AreMoved old (g.G.HoldGraph.graph l.graph) l.k l.patterns l.indexes.items;
  trees : trees_of l.indexes.items ≡ trees_of l.fn.indexes.items;
  steps : l.steps ≤ l.fn.steps + 3 * l.k;
}
