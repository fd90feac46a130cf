use Rattle.std.proofs.Common.{◌≡◌, ◌≤◌}
use Rattle.std.specs.Option.{unwrap_or}
use Rattle.std.specs.Prelude.{IfSome}
use Rattle.tree_search.specs.Given.{nth_vertex}
use Rattle.tree_search.specs.Ways.{turns, IsShorterWay}
use Rattle.tree_search.proofs.other_rows.shortest_row.Given as goal

-- what was found is no longer than the row, and is counted
abbrev pub invariant-loop-i : goal.invariant-loop-i
invariant-loop-i g l =
    let s = l.search in
    let graph = g.G.HoldGraph.graph s.graph.now in
    record {
      counted : l.shortest.turns ≡ turns graph (unwrap_or l.shortest.row l.than);
      few : l.shortest.turns ≤ turns graph l.than;
      row : IfSome l.shortest.row (IsShorterWay (g.G.HoldGraph.label_text s.graph.now) s.pattern.now graph l.partial (nth_vertex s.order l.k) l.than);
    }
