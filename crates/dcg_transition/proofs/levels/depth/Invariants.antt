use Rattle.std.proofs.Common.{◌≡◌, ◌<◌, ◌+◌, length}
use Rattle.query_tree.specs.Depth.{depth}
use Rattle.dcg_transition.proofs.levels.depth.Given as goal

-- the links counted so far, and those that are left
abbrev pub invariant-loop-link : goal.invariant-loop-link
invariant-loop-link l = record {
  below : l.at < length l.tree.links;
  counted : l.depth + depth l.tree l.at ≡ depth l.tree l.u;
}

abbrev pub decreases-loop-link : goal.decreases-loop-link
decreases-loop-link l = depth l.tree l.at
