use Rattle.std.proofs.Common.{◌≡◌, ℕ, ◌+◌, ◌*◌, ◌≤◌, length}
use Rattle.std.specs.Prelude.{count_by}
use Rattle.graph_rows.specs.LabelRows.{row_from, ends_from, IsPlaceOf}
use Rattle.graph_rows.specs.Branches.{joins}
use Rattle.dcg_transition.specs.Filled.{HasMoreIns}
use Rattle.dcg_transition.proofs.reach.reach_ends.Given as goal

-- so many joints lead to each vertex so far, and with those to come as many as the row has; each triple takes three steps at most
abbrev pub invariant-loop-w : goal.invariant-loop-w
invariant-loop-w g l =
    let rest = ends_from (g.G.HoldGraph.outs_from l.graph) (g.G.HoldGraph.ins_from l.graph) l.row in
    let row = row_from (g.G.HoldGraph.outs_from l.graph) (g.G.HoldGraph.ins_from l.graph) l.row in
    let leads_to = joins (g.G.HoldGraph.graph l.graph) l.branch.labels.now in
    record {
      place : IsPlaceOf (g.G.HoldGraph.is_out_place l.graph) (g.G.HoldGraph.is_in_place l.graph) l.row l.at;
      more : ℕ → ℕ;
      grown : HasMoreIns l.branch.child more l.fn.dcg l.dcg;
      late : (w : ℕ) → more w + count_by (leads_to w) (rest l.at) ≡ count_by (leads_to w) (rest l.initial.at);
      steps : l.steps + 3 * length (row l.at) ≤ l.fn.steps + 3 * length (row l.initial.at);
    }

abbrev pub decreases-loop-w : goal.decreases-loop-w
decreases-loop-w g l = length (row_from (g.G.HoldGraph.outs_from l.graph) (g.G.HoldGraph.ins_from l.graph) l.row l.at)
