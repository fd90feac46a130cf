use Rattle.std.proofs.Common.{◌≡◌, drop, nat_eq}
use Rattle.flux_model.specs.Ordered.{are_distinct_by}
use Rattle.plain_match.proofs.search.are_distinct.Given as goal

-- what is left decides
abbrev pub invariant-loop-i : goal.invariant-loop-i
invariant-loop-i l = are_distinct_by nat_eq (drop l.i l.m) ≡ are_distinct_by nat_eq l.m
