use Rattle.std.proofs.Common.{◌≡◌, ◌+◌, ◌≤◌, length}
use Rattle.graph_rows.specs.LabelRows.{row_from, ends_from, IsPlaceOf}
use Rattle.graph_rows.proofs.graph_row.GraphRow.next.Given as goal

-- the triples that were passed over have other labels
abbrev pub invariant-loop-turn : goal.invariant-loop-turn
invariant-loop-turn g l =
    let row = row_from (g.G.HoldGraph.outs_from l.graph) (g.G.HoldGraph.ins_from l.graph) l.self in
    let ends = ends_from (g.G.HoldGraph.outs_from l.graph) (g.G.HoldGraph.ins_from l.graph) l.self in
    record {
      place : IsPlaceOf (g.G.HoldGraph.is_out_place l.graph) (g.G.HoldGraph.is_in_place l.graph) l.self l.at;
      ends : ends l.at ≡ ends l.fn.from;
      steps : l.steps + length (row l.at) ≤ l.fn.steps + length (row l.fn.from);
      left : length (row l.at) ≤ length (row l.fn.from);
    }

abbrev pub decreases-loop-turn : goal.decreases-loop-turn
decreases-loop-turn g l = length (row_from (g.G.HoldGraph.outs_from l.graph) (g.G.HoldGraph.ins_from l.graph) l.self l.at)
