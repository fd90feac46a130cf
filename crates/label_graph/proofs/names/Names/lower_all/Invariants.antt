use Rattle.std.proofs.Common.{◌≡◌, ℕ, drop}
use Rattle.label_graph.specs.Names.{slot}
use Rattle.label_graph.specs.SetNames.{lowered_in}
use Rattle.label_graph.proofs.names.Names.lower_all.Given as goal

-- what is left to do comes to what was to do
abbrev pub invariant-loop-i : goal.invariant-loop-i
invariant-loop-i l = (q : ℕ) → lowered_in (drop l.i l.labels) (slot l.self q) ≡ lowered_in l.labels (slot l.fn.self q)
