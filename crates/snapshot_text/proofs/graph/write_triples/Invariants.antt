use Rattle.std.proofs.Common.{◌≡◌, ◌++◌, take}
use Rattle.std.specs.List.{flat_map}
use Rattle.flux_model.specs.GraphText.{triple_line}
use Rattle.graph_traits.specs.Rows.{triples_from}
use Rattle.snapshot_text.proofs.graph.write_triples.Given as goal

-- the rows so far
abbrev pub invariant-loop-id : goal.invariant-loop-id
invariant-loop-id g l =
    l.out.items ≡ l.fn.out.items ++ flat_map (λ id. flat_map triple_line (triples_from (g.G.HoldGraph.graph l.graph) id)) (take l.id-index l.ids)
