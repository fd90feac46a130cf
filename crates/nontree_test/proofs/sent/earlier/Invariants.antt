use Rattle.std.proofs.Common.{◌≡◌, ◌<◌, ℕ, false}
use Rattle.flux_model.specs.Tree.{edge_at}
use Rattle.flux_model.specs.Partial.{edge_sends}
use Rattle.nontree_test.proofs.sent.earlier.Given as goal

-- none of the edges so far is sent
abbrev pub invariant-loop-i : goal.invariant-loop-i
invariant-loop-i l = record { none : (k : ℕ) → k < l.i → edge_sends l.partial l.w l.x l.triple (edge_at l.pattern k) ≡ false }
