use Rattle.std.proofs.Common.{◌+◌, ◌*◌, ◌≤◌, take}
use Rattle.std.specs.List.{sum_by}
use Rattle.dcg_transition.specs.Tallies.{joins_from}
use Rattle.dcg_transition.specs.Filled.{HasMoreIns}
use Rattle.graph_rows.proofs.RowSumLemmas.{rows_length}
use Rattle.dcg_transition.proofs.reach.reach_vertex.Given as goal

-- the joints from the vertices before the index lead in, and their rows are paid for
abbrev pub invariant-loop-v : goal.invariant-loop-v
invariant-loop-v g l = record {
  ins : HasMoreIns l.branch.child (λ w. sum_by (joins_from l.fn.dcg l.branch (g.G.HoldGraph.graph l.graph) w) (take l.v-index l.v-items)) l.fn.dcg l.dcg;
  steps : l.steps ≤ l.fn.steps + l.v-index + 3 * rows_length l.branch.direction (g.G.HoldGraph.graph l.graph) (take l.v-index l.v-items);
}
