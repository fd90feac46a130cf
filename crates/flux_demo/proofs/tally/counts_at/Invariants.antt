use Rattle.std.proofs.Common.{◌≡◌, drop}
use Rattle.flux_demo.specs.Tally.{gained_at, lost_at}
use Rattle.flux_demo.proofs.tally.counts_at.Given as goal

-- the pattern's delta is among those that are left, if it is there
abbrev pub invariant-loop-i : goal.invariant-loop-i
invariant-loop-i l = record {
  gained : gained_at l.k (drop l.i l.deltas) ≡ gained_at l.k l.deltas;
  lost : lost_at l.k (drop l.i l.deltas) ≡ lost_at l.k l.deltas;
}
