use Rattle.std.proofs.Common.{◌≡◌, take}
use Rattle.snapshot_text.proofs.graph.sorted_ids.Given as goal

-- the ids so far
abbrev pub invariant-loop-i : goal.invariant-loop-i
invariant-loop-i g l = l.ids.items ≡ take l.i (g.G.HoldGraph.listed l.graph)
