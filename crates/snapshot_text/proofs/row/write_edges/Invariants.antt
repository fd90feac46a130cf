use Rattle.std.proofs.Common.{◌≡◌, ◌++◌, take, map}
use Rattle.std.specs.List.{flat_map}
use Rattle.flux_model.specs.GraphText.{triple_line}
use Rattle.snapshot_text.specs.Row.{edge_triple}
use Rattle.snapshot_text.proofs.row.write_edges.Given as goal

-- the lines so far
abbrev pub invariant-loop-edge : goal.invariant-loop-edge
invariant-loop-edge l = l.out.items ≡ l.fn.out.items ++ flat_map triple_line (take l.edge-index (map (edge_triple l.src) l.edges))
