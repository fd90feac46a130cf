use Rattle.std.proofs.Common.{◌+◌, ◌≤◌, take, ◌==◌}
use Rattle.std.specs.Prelude.{count_by}
use Rattle.dcg_transition.specs.Filled.{HasMoreIns}
use Rattle.dcg_transition.proofs.reach.reach_root.Given as goal

-- the vertices before the index are reached, and took a step each
abbrev pub invariant-loop-v : goal.invariant-loop-v
invariant-loop-v g l = record {
  reached : HasMoreIns l.tree.root (λ w. count_by (λ v. v == w) (take l.v-index l.roots)) l.fn.dcg l.dcg;
  steps : l.steps ≤ l.fn.steps + l.v-index;
}
