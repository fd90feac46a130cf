use Rattle.flux_model.specs.Exact.{IsExact}
use Rattle.worked_updates.proofs.move_rows.keeps_each.Given as goal

-- the states are exact
abbrev pub invariant-loop-i : goal.invariant-loop-i
invariant-loop-i g l = IsExact l.pattern l.tree (g.G.HoldGraph.graph l.graph) l.dcg
