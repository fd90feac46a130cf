use Rattle.std.proofs.Common.{◌≡◌, ◌≤◌, ◌+◌, ◌*◌, length}
use Rattle.dcg_updates.specs.Plans.{row_from, row_left, IsRowPlace}
use Rattle.dcg_updates.specs.WalkPlans.{plan_of}
use Rattle.dcg_updates.proofs.walk.Walk.next_in_row.Given as goal

abbrev pub invariant-loop-w : goal.invariant-loop-w
invariant-loop-w g l =
    let outs = g.G.HoldGraph.outs_from l.graph in
    let ins = g.G.HoldGraph.ins_from l.graph in
    let p = plan_of l.self in
    record {
      place : IsRowPlace (g.G.HoldGraph.is_out_place l.graph) (g.G.HoldGraph.is_in_place l.graph) p l.at;
      ends : row_left outs ins (g.G.HoldGraph.graph l.graph) p l.at ≡ row_left outs ins (g.G.HoldGraph.graph l.graph) p l.fn.from;
      steps : l.steps + 2 * length (row_from outs ins p l.at) ≤ l.fn.steps + 2 * length (row_from outs ins p l.fn.from);
    }

abbrev pub decreases-loop-w : goal.decreases-loop-w
decreases-loop-w g l = length (row_from (g.G.HoldGraph.outs_from l.graph) (g.G.HoldGraph.ins_from l.graph) (plan_of l.self) l.at)
