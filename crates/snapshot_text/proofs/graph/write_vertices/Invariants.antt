use Rattle.std.proofs.Common.{◌≡◌, ◌++◌, take}
use Rattle.std.specs.List.{flat_map}
use Rattle.flux_model.specs.GraphText.{vertex_line}
use Rattle.snapshot_text.proofs.graph.write_vertices.Given as goal

-- the lines so far
abbrev pub invariant-loop-id : goal.invariant-loop-id
invariant-loop-id g l = l.out.items ≡ l.fn.out.items ++ flat_map vertex_line (take l.id-index (g.G.HoldGraph.graph l.graph).vertices)
