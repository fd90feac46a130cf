use Rattle.std.proofs.Common.{◌≡◌, ℕ, ◌<◌, length, take}
use Rattle.pattern_check.specs.MarkedVertices.{is_marked, is_near}
use Rattle.pattern_check.proofs.connected.wider.Given as goal

-- the edges so far have been followed
abbrev pub invariant-loop-edge : goal.invariant-loop-edge
invariant-loop-edge l = record {
  len : length l.next ≡ 32;
  near : (u : ℕ) → u < 32 → is_marked l.next u ≡ is_near (take l.edge-index l.edges) l.seen u;
}
