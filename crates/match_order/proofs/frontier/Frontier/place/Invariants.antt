use Rattle.std.proofs.Common.{ℕ, List, length}
use Rattle.match_order.specs.FrontierState.{AreMarks, HasCount}
use Rattle.match_order.proofs.FrontierLemmas.{ArePartMarks}
use Rattle.match_order.proofs.frontier.Frontier.place.Given as goal

-- the neighbours below w have u as their anchor
abbrev pub invariant-loop-w : goal.invariant-loop-w
invariant-loop-w l = record {
  size : HasCount (length l.tree.links) l.self;
  part : (before : List ℕ) → AreMarks l.tree before l.fn.self → ArePartMarks l.tree before l.u l.w l.self.placed l.self.anchors;
}
