use Rattle.flux_model.specs.GraphText.{vertex_line}
use Rattle.flux_model.proofs.GrownLemmas.{on_err, flat_map_next, grew_at}
use Rattle.snapshot_text.proofs.VertexLemmas.{id_at, has_vertex-at, vertex-at}
use Rattle.snapshot_text.proofs.graph.write_vertices.Goals as goal

pub labels_of-requires : goal.labels_of-requires
labels_of-requires g c = has_vertex-at (g.G.HoldGraph.graph c.args.graph.now) c.loop-id.id-index _ (id_at (g.G.HoldGraph.graph c.args.graph.now) c.args.ids.now c.loop-id.id-index c.requires.ids c.loop-id-test.true)

pub returns-in_err-write_vertex-clause-err : goal.returns-in_err-write_vertex-clause-err
returns-in_err-write_vertex-clause-err g c =
    on_err _ (grew_at vertex_line _ _ _ (g.G.HoldGraph.graph c.args.graph.now).vertices c.loop-id.id-index _
    (vertex-at (g.G.HoldGraph.graph c.args.graph.now) _ _ _ c.requires.graph (id_at (g.G.HoldGraph.graph c.args.graph.now) c.args.ids.now c.loop-id.id-index c.requires.ids c.loop-id-test.true) c.labels_of.ensures.labels)
    c.loop-id.invariant c.in_err-write_vertex.ensures.err)

pub loop-id-preserved : goal.loop-id-preserved
loop-id-preserved g c =
    flat_map_next vertex_line _ _ _ (g.G.HoldGraph.graph c.args.graph.now).vertices c.loop-id.id-index _
    (vertex-at (g.G.HoldGraph.graph c.args.graph.now) _ _ _ c.requires.graph (id_at (g.G.HoldGraph.graph c.args.graph.now) c.args.ids.now c.loop-id.id-index c.requires.ids c.loop-id-test.true) c.labels_of.ensures.labels)
    c.loop-id.invariant c.in_ok-write_vertex.ensures.ok
