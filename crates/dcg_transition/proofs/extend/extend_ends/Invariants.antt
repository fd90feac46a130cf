use Rattle.std.proofs.Common.{◌≡◌, ℕ, ◌+◌, ◌*◌, ◌≤◌, length}
use Rattle.std.specs.Prelude.{count_by}
use Rattle.graph_rows.specs.LabelRows.{row_from, ends_from, IsPlaceOf}
use Rattle.dcg_transition.specs.Filled.{opens, HasMoreOuts}
use Rattle.dcg_transition.proofs.extend.extend_ends.Given as goal

-- so many joints lead to explicit pairs so far, and with those to come as many as the row has; each triple takes three steps at most
abbrev pub invariant-loop-w : goal.invariant-loop-w
invariant-loop-w g l =
    let rest = ends_from (g.G.HoldGraph.outs_from l.graph) (g.G.HoldGraph.ins_from l.graph) l.row in
    let row = row_from (g.G.HoldGraph.outs_from l.graph) (g.G.HoldGraph.ins_from l.graph) l.row in
    let leads_on = opens l.fn.dcg l.branch.child in
    record {
      place : IsPlaceOf (g.G.HoldGraph.is_out_place l.graph) (g.G.HoldGraph.is_in_place l.graph) l.row l.at;
      more : ℕ;
      grown : HasMoreOuts l.branch.link.parent l.v l.branch.number more l.fn.dcg l.dcg;
      late : more + count_by leads_on (rest l.at) ≡ count_by leads_on (rest l.initial.at);
      steps : l.steps + 3 * length (row l.at) ≤ l.fn.steps + 3 * length (row l.initial.at);
    }

abbrev pub decreases-loop-w : goal.decreases-loop-w
decreases-loop-w g l = length (row_from (g.G.HoldGraph.outs_from l.graph) (g.G.HoldGraph.ins_from l.graph) l.row l.at)
