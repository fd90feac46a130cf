use Rattle.std.proofs.Common.{length, IsTrue}
use Rattle.flux_model.specs.Graph.{has_vertex}
use Rattle.worked_stores.proofs.calls.out_row.Given as goal

-- the vertex stands, and the place is one of its row
abbrev pub invariant-loop-turn : goal.invariant-loop-turn
invariant-loop-turn g l = record {
  stands : IsTrue (has_vertex (g.G.HoldGraph.graph l.graph) l.v);
  place : g.G.HoldGraph.is_out_place l.graph l.v l.at;
}

abbrev pub decreases-loop-turn : goal.decreases-loop-turn
decreases-loop-turn g l = length (g.G.HoldGraph.outs_from l.graph l.v l.at)
