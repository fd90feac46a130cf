use Rattle.std.proofs.Common.{◌≡◌, ◌+◌, ◌*◌, ◌≤◌, length}
use Rattle.graph_rows.specs.LabelRows.{row_from, IsPlaceOf}
use Rattle.tree_search.specs.CandidatesLeft.{walked, walked_from}
use Rattle.tree_search.proofs.candidates.Candidates.next_of_row.Given as goal

-- none was passed to which the anchor's triple leads
abbrev pub invariant-loop-x : goal.invariant-loop-x
invariant-loop-x g l =
    let outs = g.G.HoldGraph.outs_from l.graph in
    let ins = g.G.HoldGraph.ins_from l.graph in
    let list = walked_from outs ins (g.G.HoldGraph.graph l.graph) l.self in
    let row = row_from outs ins (walked l.self) in
    record {
      place : IsPlaceOf (g.G.HoldGraph.is_out_place l.graph) (g.G.HoldGraph.is_in_place l.graph) (walked l.self) l.at;
      same : list l.at ≡ list l.fn.from;
      less : length (row l.at) ≤ length (row l.fn.from);
      steps : l.steps + 2 * length (row l.at) ≤ l.fn.steps + 2 * length (row l.fn.from);
    }

abbrev pub decreases-loop-x : goal.decreases-loop-x
decreases-loop-x g l = length (row_from (g.G.HoldGraph.outs_from l.graph) (g.G.HoldGraph.ins_from l.graph) (walked l.self) l.at)
