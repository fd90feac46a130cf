use Rattle.pattern_registry.specs.States.{AreExact}
use Rattle.worked_registry.proofs.apply_rows.takes_each.Given as goal

-- the rows of the patterns are exact
abbrev pub invariant-loop-i : goal.invariant-loop-i
invariant-loop-i g l = AreExact l.registry (g.G.HoldGraph.graph l.graph)
