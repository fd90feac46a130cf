use Rattle.std.proofs.Common.{◌≡◌, ◌++◌, map, length}
use Rattle.snapshot_text.specs.Row.{edge_triple}
use Rattle.snapshot_text.proofs.row.read_row.Given as goal

-- what was read and what is left are the row
abbrev pub invariant-loop-turn : goal.invariant-loop-turn
invariant-loop-turn g l = record {
  place : g.G.HoldGraph.is_out_place l.graph l.id l.at;
  row : map (edge_triple l.id) l.row.items ++ g.G.HoldGraph.outs_from l.graph l.id l.at ≡ g.G.HoldGraph.outs_from l.graph l.id l.initial.at;
}

abbrev pub decreases-loop-turn : goal.decreases-loop-turn
decreases-loop-turn g l = length (g.G.HoldGraph.outs_from l.graph l.id l.at)
