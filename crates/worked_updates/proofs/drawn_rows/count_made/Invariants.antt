use Rattle.flux_model.specs.Exact.{IsExact}
use Rattle.worked_updates.proofs.drawn_rows.count_made.Given as goal

-- the states are exact
abbrev pub invariant-loop : goal.invariant-loop
invariant-loop g l = IsExact l.pattern l.tree (g.G.HoldGraph.graph l.graph) l.dcg
