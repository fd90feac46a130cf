use Rattle.std.proofs.Common.{◌+◌, ◌*◌, ◌≤◌, take}
use Rattle.dcg_transition.specs.Tallies.{IsTallied}
use Rattle.graph_rows.proofs.RowSumLemmas.{rows_length}
use Rattle.dcg_transition.proofs.extend.extend_to.Given as goal

-- the joints from the vertices before the index are counted, and their rows are paid for
abbrev pub invariant-loop-v : goal.invariant-loop-v
invariant-loop-v g l = record {
  tallied : IsTallied l.branch (g.G.HoldGraph.graph l.graph) (take l.v-index l.v-items) l.fn.dcg l.dcg;
  steps : l.steps ≤ l.fn.steps + l.v-index + 3 * rows_length l.branch.direction (g.G.HoldGraph.graph l.graph) (take l.v-index l.v-items);
}
