use Rattle.std.proofs.Common.{◌≡◌}
use Rattle.flux_model.specs.Pattern.{reached}
use Rattle.pattern_check.specs.MarkedVertices.{marked}
use Rattle.pattern_check.proofs.connected.is_connected.Given as goal

-- the vertices that are seen are those that so many rounds reach
abbrev pub invariant-loop : goal.invariant-loop
invariant-loop l = marked l.seen l.count ≡ reached l.edges l.count l.counter
