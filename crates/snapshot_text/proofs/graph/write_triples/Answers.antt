use Rattle.std.proofs.Common.{◌∙◌, ap, ◌++◌}
use Rattle.std.specs.List.{flat_map}
use Rattle.std.proofs.lemmas.Option.{slice_get-get_or}
use Rattle.flux_model.specs.GraphText.{triple_line}
use Rattle.graph_traits.specs.Rows.{triples_from}
use Rattle.flux_model.proofs.GrownLemmas.{on_err, grew_same, grew_at}
use Rattle.snapshot_text.proofs.VertexLemmas.{id_at, has_vertex-at}
use Rattle.snapshot_text.proofs.SourceLemmas.{lines-of_ids, rows-done}
use Rattle.snapshot_text.proofs.graph.write_triples.Goals as goal

pub write_row-requires-clause-stands : goal.write_row-requires-clause-stands
write_row-requires-clause-stands g c = has_vertex-at (g.G.HoldGraph.graph c.args.graph.now) c.loop-id.id-index _ (id_at (g.G.HoldGraph.graph c.args.graph.now) c.args.ids.now c.loop-id.id-index c.requires.ids c.loop-id-test.true)

pub returns-in_err-write_row-clause-err : goal.returns-in_err-write_row-clause-err
returns-in_err-write_row-clause-err g c =
    on_err _ (grew_same _ _ _ _ (lines-of_ids (g.G.HoldGraph.graph c.args.graph.now) _ c.requires.graph c.requires.ids)
    (grew_at (λ id. flat_map triple_line (triples_from (g.G.HoldGraph.graph c.args.graph.now) id)) _ _ _ c.args.ids.now c.loop-id.id-index _
    (slice_get-get_or c.args.ids.now c.loop-id.id-index 0 c.loop-id-test.true) c.loop-id.invariant c.in_err-write_row.ensures.err))

pub returns-clause-ok : goal.returns-clause-ok
returns-clause-ok g c = c.loop-id.invariant ∙ ap (λ t. c.args.out.now.items ++ t) (rows-done (g.G.HoldGraph.graph c.args.graph.now) c.args.ids.now c.loop-id.id-index c.requires.graph c.requires.ids c.loop-id-test.false)
